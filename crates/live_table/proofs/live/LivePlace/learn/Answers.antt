use Rattle.std.proofs.Common.{rules}
use Rattle.live_table.proofs.Seeing.{by_result, of_some, of_none, kept_sees, kept_leaves}
use Rattle.live_table.proofs.live.LivePlace.learn.Goals as goal

-- a copy with all of the front was met and is seen, or a refusal is counted
pub returns : goal.returns
returns c = rw (← c.self.view_is)
    (by_result c.keep.result
    (λ _ kept.
    let met = of_some _ _ _ _ kept.0 c.visit_front-met.ensures in
    record { sees = kept_sees _ _ _ _ _ _ kept.1 c.self.invariant met.0; learned = met.1 })
    (λ _ kept.
    kept_leaves _ _ _ _ _ _ kept.1 c.self.invariant (of_none _ _ _ kept.0 c.visit_front-met.ensures) kept.2
    c.keep.ensures.counted)
    c.keep.ensures.kept)
