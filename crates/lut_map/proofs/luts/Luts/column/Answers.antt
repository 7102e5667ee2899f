use Rattle.std.proofs.Common.{◌≡◌, ◌<◌, length, sym, ap, subst, arith}
use Rattle.std.proofs.lemmas.List.{get_or_read}
use Rattle.map_defs.specs.Mapped.{MappedValue}
use Rattle.map_defs.specs.Columns.{AreColumns}
use Rattle.lut_map.specs.Kept.{luts_of}
use Rattle.lut_map.proofs.KeptLemmas.{kept-column}
use Rattle.lut_map.proofs.luts.Luts.column.Goals as goal

pub returns-clause-column : goal.returns-clause-column
returns-clause-column c columns are =
    let l = c.self.inside in
    let value = luts_of l.inputs l.cells l.outputs.items in
    let same : length l.cells ≡ length c.args.self.now.cells = ap (λ (v : MappedValue). length v.cells) c.self.view_is in
    let within : c.args.k < length l.columns.items = omega (arith, c.self.invariant.found.count, c.requires, same) in
    let P : MappedValue → Type 0 = λ v. AreColumns v columns in
    kept-column value l.columns.items columns c.args.k c.index.result.now c.self.invariant (subst P (sym c.self.view_is) are)
    (sym (get_or_read l.columns.items c.args.k c.index.result.now within c.index.ensures 0))
