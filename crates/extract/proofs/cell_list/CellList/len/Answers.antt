use Rattle.std.proofs.Common.{length, ap, arith}
use Rattle.extract.proofs.CellListLemmas.{length-cells_of}
use Rattle.extract.proofs.cell_list.CellList.len.Goals as goal

-- there are as many tables as cells
pub returns : goal.returns
returns c =
    let i = c.self.inside in
    omega (arith, c.len.ensures, c.self.invariant, ap length c.self.view_is, length-cells_of i.pins.lists i.tables.items c.self.invariant)
