use Rattle.std.proofs.Common.{◌<◌, ℕ, arith}
use Rattle.fabric_defs.specs.Configurations.{track_word}
use Rattle.fabric.proofs.PinLemmas.{listed_at}
use Rattle.extract.proofs.WalkLemmas.{switched_more}
use Rattle.extract.proofs.sources.pass_switches.Goals as goal

-- a switch gives its track a cell of the column, or leaves its source
pub loop-t-preserved : goal.loop-t-preserved
loop-t-preserved c =
    let config = c.args.config.now in
    let words = c.channel_after-words.ensures in
    let t : ℕ = c.loop-t.t in
    let lt : t < config.geometry.tracks = omega (arith, words.count) in
    let word = listed_at config.geometry.tracks (track_word config c.args.column) _ t words.value lt in
    switched_more config c.args.column t _ c.geometry-g.result c.loop-t.tracks.items _ _ c.geometry-g.ensures.value lt word
    c.index.ensures c.switched_source.ensures c.loop-t.invariant
