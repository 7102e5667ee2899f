use Rattle.std.proofs.Common.{ap, ◌∙◌, arith}
use Rattle.fabric_defs.specs.Configurations.{number_behind}
use Rattle.fabric.proofs.PartReads.{table_fits, table_read}
use Rattle.fabric.proofs.TableReads.{table_words-fit}
use Rattle.fabric.proofs.config.Config.table_in.Goals as goal

-- the words of the table lie within those of the configuration
pub slice_bounds-number_of-end : goal.slice_bounds-number_of-end
slice_bounds-number_of-end c =
    let fits = table_fits c.args.self.now c.args.g c.words-words.result.now c.args.column c.args.row _ _ c.words-words.ensures.known c.requires.geometry
    c.words-words.ensures.value c.table_place-place.ensures c.table_words.ensures.count c.requires.column c.requires.row in
    omega (arith, fits)

-- they make up a number of at most 64 bits
pub number_of-requires : goal.number_of-requires
number_of-requires c =
    let fits = table_fits c.args.self.now c.args.g c.words-words.result.now c.args.column c.args.row _ _ c.words-words.ensures.known c.requires.geometry
    c.words-words.ensures.value c.table_place-place.ensures c.table_words.ensures.count c.requires.column c.requires.row in
    omega (arith, fits, table_words-fit c.args.g.kind, c.table_words.ensures.count)

-- which is the table of the cell
pub returns : goal.returns
returns c =
    let read = table_read c.args.self.now c.args.g c.words-words.result.now c.args.column c.args.row _ _ c.words-words.ensures.known c.requires.geometry
    c.words-words.ensures.value c.table_place-place.ensures c.table_words.ensures.count c.requires.column c.requires.row in
    c.number_of.ensures ∙ ap (number_behind 0) read
