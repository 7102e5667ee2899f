use Rattle.live_table.proofs.Seeing.{still_sees}
use Rattle.live_table.proofs.still.StillPlacePlace.enter.Goals as goal

-- the table is seen, whose journal is legal
pub returns : goal.returns
returns g c = (still_sees _ _ c.len-entries.ensures.legal, c.on.ensures)
