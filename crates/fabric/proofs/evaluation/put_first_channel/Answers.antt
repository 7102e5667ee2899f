use Rattle.std.proofs.Common.{◌∙◌, ap, arith}
use Rattle.fabric_defs.specs.Configurations.{first_word}
use Rattle.fabric_defs.specs.Wirings.{pad_bit}
use Rattle.fabric.proofs.PinLemmas.{listed_at}
use Rattle.fabric.proofs.ColumnLemmas.{HasChannel-first}
use Rattle.fabric.proofs.evaluation.put_first_channel.Goals as goal

-- the tracks have the bits of the pads that the words take
pub returns-clause-channel : goal.returns-clause-channel
returns-clause-channel c =
    let config = c.args.config.now in
    let words = c.first_channel-words.ensures in
    HasChannel-first config c.args.x c.loop-t.tracks (omega arith) c.loop-t.invariant.off
    (λ t lt. c.loop-t.invariant.done t (omega (arith, words.count))
    ∙ ap (pad_bit c.args.x) (listed_at config.geometry.tracks (first_word config) _ t words.value lt))
