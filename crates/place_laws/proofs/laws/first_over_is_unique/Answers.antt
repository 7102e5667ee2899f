use Rattle.place_laws.proofs.RoomLemmas.{first_over-unique}
use Rattle.place_laws.proofs.laws.first_over_is_unique.Goals as goal

pub returns : goal.returns
returns c = first_over-unique
