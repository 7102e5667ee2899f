use Rattle.std.proofs.Common.{length, ap, ◌∙◌, ◌++◌, [], ◌∷◌, arith}
use Rattle.extract.specs.CellLists.{pins_in}
use Rattle.extract.proofs.CellListLemmas.{length-cells_of, pins_in-cells_of, cells_of-push}
use Rattle.extract.proofs.cell_list.CellList.push.Goals as goal

-- the pins of one cell more have room
pub push-requires-clause-few_items : goal.push-requires-clause-few_items
push-requires-clause-few_items c =
    let i = c.self.inside in
    omega (arith, c.requires.few_pins, ap pins_in c.self.view_is, pins_in-cells_of i.pins.lists i.tables.items c.self.invariant)

-- so has its list
pub push-requires-clause-few_lists : goal.push-requires-clause-few_lists
push-requires-clause-few_lists c =
    let i = c.self.inside in
    omega (arith, c.requires.few_cells, ap length c.self.view_is, length-cells_of i.pins.lists i.tables.items c.self.invariant, c.self.invariant)

-- the new cell is the last
pub returns-clause-ok : goal.returns-clause-ok
returns-clause-ok c =
    let i = c.self.inside in
    rw (c.in_ok-push.ensures.ok, c.push_reserved.ensures.items, c.reserve.ensures.items)
    (cells_of-push i.pins.lists i.tables.items c.args.pins.now c.args.table c.self.invariant
    ∙ ap (λ cells. cells ++ record { pins = c.args.pins.now; table = c.args.table } ∷ []) c.self.view_is)
