use Rattle.std.proofs.Common.{rules}
use Rattle.live_table.proofs.Seeing.{by_result, of_some, of_none, kept_sees, kept_misses}
use Rattle.live_table.proofs.live.LivePlacePlace.enter.Goals as goal

-- a copy was met and is seen, or a refusal is counted
pub returns : goal.returns
returns g c = rw (← c.self.view_is)
    (by_result c.keep.result
    (λ _ kept.
    let met = of_some _ _ _ _ kept.0 c.visit-met.ensures in
    (kept_sees _ _ _ _ _ _ kept.1 c.self.invariant met.0, met.1))
    (λ _ kept.
    let none = of_none _ _ _ kept.0 c.visit-met.ensures in
    (kept_misses _ _ _ _ _ _ kept.1 none.0 kept.2 c.keep.ensures.counted, none.1))
    c.keep.ensures.kept)
