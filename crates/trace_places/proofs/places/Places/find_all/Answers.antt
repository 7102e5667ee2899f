use Rattle.std.proofs.Common.{◌∙◌, sym}
use Rattle.trace_places.proofs.PlaceLemmas.{places_from-next}
use Rattle.trace_places.proofs.places.Places.find_all.Goals as goal

-- one more place was found
pub loop-index-preserved : goal.loop-index-preserved
loop-index-preserved c =
    rw c.in_ok-push.ensures.items
    (sym (places_from-next c.args.self.now c.loop-index.found.items c.args.indices.now c.loop-index.index-index c.in-Some.place c.loop-index-test.true (sym c.in-Some.ensures))
    ∙ c.loop-index.invariant)
