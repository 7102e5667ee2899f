use Rattle.std.proofs.Common.{List, length, ◌≤◌, All, sym, subst}
use Rattle.fabric_defs.specs.declared.limits.TheConstants.{MAX_PINS}
use Rattle.lut_map.specs.declared.lut_cell.LutCell.{LutCell}
use Rattle.lut_map.proofs.KeptLemmas.{handed-few}
use Rattle.lut_map.proofs.luts.Luts.new.Goals as goal

pub push_all-requires : goal.push_all-requires
push_all-requires c =
    let P : List LutCell → Type 0 = λ cells. All (λ (cell : LutCell). length cell.pins.items ≤ MAX_PINS) cells in
    subst P (sym c.deref.ensures.value) (handed-few c.args.inputs c.args.cells.items c.args.outputs.items c.requires)
