use Rattle.std.proofs.Common.{length, ap, arith}
use Rattle.extract.proofs.CellListLemmas.{length-cells_of, pins_read, table_read}
use Rattle.extract.proofs.cell_list.CellList.get.Goals as goal

-- a cell has a list of pins
pub get-requires : goal.get-requires
get-requires c =
    let i = c.self.inside in
    omega (arith, ap length c.self.view_is, length-cells_of i.pins.lists i.tables.items c.self.invariant)

-- and a table
pub index-requires : goal.index-requires
index-requires c =
    let i = c.self.inside in
    omega (arith, i.tables.ok.0, ap length c.self.view_is, length-cells_of i.pins.lists i.tables.items c.self.invariant)

-- the list at its place is that of its pins
pub returns-clause-pins : goal.returns-clause-pins
returns-clause-pins c =
    let i = c.self.inside in
    pins_read c.args.self.now i.pins.lists i.tables.items c.args.k _ c.self.view_is c.self.invariant c.requires c.get.ensures.list

-- and the number there its table
pub returns-clause-table : goal.returns-clause-table
returns-clause-table c =
    let i = c.self.inside in
    table_read c.args.self.now i.pins.lists i.tables.items c.args.k _ c.self.view_is c.self.invariant c.requires c.index.ensures
