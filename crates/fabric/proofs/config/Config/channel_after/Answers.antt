use Rattle.std.proofs.Common.{arith}
use Rattle.fabric.proofs.PartReads.{tracks_read}
use Rattle.fabric.proofs.config.Config.channel_after.Goals as goal

-- the words of the channel lie within those of the configuration
pub slice_bounds-result-end : goal.slice_bounds-result-end
slice_bounds-result-end c =
    let run = tracks_read c.args.self.now c.geometry-g.result c.words-words.result.now c.args.column _ _ c.geometry-g.ensures.known c.geometry-g.ensures.value
    c.words-words.ensures.value c.channel_place-place.ensures c.t.ensures.value c.requires in
    omega (arith, run.fits)

-- they are those of its tracks
pub returns-clause-value : goal.returns-clause-value
returns-clause-value c =
    let run = tracks_read c.args.self.now c.geometry-g.result c.words-words.result.now c.args.column _ _ c.geometry-g.ensures.known c.geometry-g.ensures.value
    c.words-words.ensures.value c.channel_place-place.ensures c.t.ensures.value c.requires in
    run.value

-- and each switches to a row of the column or to none
pub returns-clause-within : goal.returns-clause-within
returns-clause-within c =
    let run = tracks_read c.args.self.now c.geometry-g.result c.words-words.result.now c.args.column _ _ c.geometry-g.ensures.known c.geometry-g.ensures.value
    c.words-words.ensures.value c.channel_place-place.ensures c.t.ensures.value c.requires in
    run.within
