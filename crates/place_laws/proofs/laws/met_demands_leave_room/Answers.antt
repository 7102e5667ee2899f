use Rattle.place_laws.proofs.RoomLemmas.{have_room, needs_met}
use Rattle.place_laws.proofs.laws.met_demands_leave_room.Goals as goal

pub returns-clause-room : goal.returns-clause-room
returns-clause-room c l g columns spans cols none = have_room l g columns spans cols.count none

pub returns-clause-tracks : goal.returns-clause-tracks
returns-clause-tracks c = needs_met
