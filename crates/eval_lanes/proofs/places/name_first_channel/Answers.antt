use Rattle.std.proofs.Common.{◌∙◌, arith}
use Rattle.eval_lanes.proofs.PlaceLemmas.{names_first}
use Rattle.eval_lanes.proofs.places.name_first_channel.Goals as goal

pub returns : goal.returns
returns c =
    let words = c.first_channel-words.ensures in
    names_first c.args.config.now c.loop-t.tracks c.first_channel-words.result.now (c.loop-t.invariant.places ∙ c.requires)
    c.loop-t.invariant.off words.value words.count words.within
    (λ t lt. c.loop-t.invariant.done t (omega (arith, words.count)))
