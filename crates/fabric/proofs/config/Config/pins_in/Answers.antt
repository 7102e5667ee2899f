use Rattle.std.proofs.Common.{arith}
use Rattle.fabric.proofs.PartReads.{pins_read}
use Rattle.fabric.proofs.config.Config.pins_in.Goals as goal

-- the words of the pins lie within those of the configuration
pub slice_bounds-result-end : goal.slice_bounds-result-end
slice_bounds-result-end c =
    let run = pins_read c.args.self.now c.args.g c.words-words.result.now c.args.column c.args.row _ _ c.words-words.ensures.known c.requires.geometry
    c.words-words.ensures.value c.cell_place-place.ensures c.pins.ensures.count c.requires.column c.requires.row in
    omega (arith, run.fits)

-- they are those of the cell's pins
pub returns-clause-value : goal.returns-clause-value
returns-clause-value c =
    let run = pins_read c.args.self.now c.args.g c.words-words.result.now c.args.column c.args.row _ _ c.words-words.ensures.known c.requires.geometry
    c.words-words.ensures.value c.cell_place-place.ensures c.pins.ensures.count c.requires.column c.requires.row in
    run.value

-- and each taps a track or none
pub returns-clause-within : goal.returns-clause-within
returns-clause-within c =
    let run = pins_read c.args.self.now c.args.g c.words-words.result.now c.args.column c.args.row _ _ c.words-words.ensures.known c.requires.geometry
    c.words-words.ensures.value c.cell_place-place.ensures c.pins.ensures.count c.requires.column c.requires.row in
    run.within
