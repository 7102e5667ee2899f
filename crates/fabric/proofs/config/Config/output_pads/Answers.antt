use Rattle.std.proofs.Common.{arith}
use Rattle.fabric.proofs.PartReads.{pads_read}
use Rattle.fabric.proofs.config.Config.output_pads.Goals as goal

-- the words of the output pads lie within those of the configuration
pub slice_bounds-result-end : goal.slice_bounds-result-end
slice_bounds-result-end c =
    let run = pads_read c.args.self.now c.geometry-g.result c.words-words.result.now _ _ c.geometry-g.ensures.known c.geometry-g.ensures.value
    c.words-words.ensures.value c.output_place-place.ensures c.o.ensures.value in
    omega (arith, run.fits)

-- they are those of the output pads
pub returns-clause-value : goal.returns-clause-value
returns-clause-value c =
    let run = pads_read c.args.self.now c.geometry-g.result c.words-words.result.now _ _ c.geometry-g.ensures.known c.geometry-g.ensures.value
    c.words-words.ensures.value c.output_place-place.ensures c.o.ensures.value in
    run.value

-- and each taps a track or none
pub returns-clause-within : goal.returns-clause-within
returns-clause-within c =
    let run = pads_read c.args.self.now c.geometry-g.result c.words-words.result.now _ _ c.geometry-g.ensures.known c.geometry-g.ensures.value
    c.words-words.ensures.value c.output_place-place.ensures c.o.ensures.value in
    run.within
