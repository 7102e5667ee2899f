use Rattle.std.proofs.Common.{◌≡◌, ℕ, ◌+◌, List, Bool, length, sum, ap, ◌∙◌, arith}
use Rattle.std.specs.List.{count_by}
use Rattle.fabric_defs.specs.Numbered.{list_of}
use Rattle.miter_cnf.specs.Numbered.{NumberingValue, numbering_of, sum_before, flags_before, first_row, first_cell}
use Rattle.miter_cnf.specs.Circuits.{AreCircuits}
use Rattle.miter_cnf.proofs.NumberLemmas.{nodes-is, row_count-is, numbering-within, cone-within, numbering-by_parts, IsNumbering-from}
use Rattle.miter_cnf.proofs.numbering.Numbering.of.Goals as goal

-- the variables before the cells are few enough
pub overflow_add-first_cell : goal.overflow_add-first_cell
overflow_add-first_cell c =
    let net = c.args.net.now in
    let l = c.args.cells.now in
    let h : AreCircuits net l = record { is_net = c.inputs-inputs.ensures.net; are_cells = c.cone.ensures.known; fits = c.requires } in
    omega (arith, numbering-within net l h, nodes-is net l, row_count-is net l)

-- so are those of all rows
pub sums_before-requires : goal.sums_before-requires
sums_before-requires c =
    let net = c.args.net.now in
    let l = c.args.cells.now in
    let h : AreCircuits net l = record { is_net = c.inputs-inputs.ensures.net; are_cells = c.cone.ensures.known; fits = c.requires } in
    omega (arith, numbering-within net l h, nodes-is net l, ap sum (c.deref.ensures.value ∙ c.in_ok-rows.ensures))

-- so are those of the cone
pub flags_before-requires : goal.flags_before-requires
flags_before-requires c =
    let net = c.args.net.now in
    let l = c.args.cells.now in
    let h : AreCircuits net l = record { is_net = c.inputs-inputs.ensures.net; are_cells = c.cone.ensures.known; fits = c.requires } in
    omega (arith, cone-within net l c.deref-2.result.now h (c.deref-2.ensures.value ∙ c.in_ok-cone.ensures.items ∙ c.cone.ensures.value))

-- so are those before the differences
pub overflow_add-result : goal.overflow_add-result
overflow_add-result c =
    let net = c.args.net.now in
    let l = c.args.cells.now in
    let h : AreCircuits net l = record { is_net = c.inputs-inputs.ensures.net; are_cells = c.cone.ensures.known; fits = c.requires } in
    let all = c.deref-3.ensures.value ∙ c.in_ok-cone.ensures.items ∙ c.cone.ensures.value in
    omega (arith, cone-within net l c.deref-3.result.now h all, c.count_flags.ensures)

-- the arrays begin where the variables of rows, cells and differences do
pub invariant_of-result : goal.invariant_of-result
invariant_of-result c =
    let net = c.args.net.now in
    let l = c.args.cells.now in
    let h : AreCircuits net l = record { is_net = c.inputs-inputs.ensures.net; are_cells = c.cone.ensures.known; fits = c.requires } in
    let rows = c.in_ok-rows.rows.items in
    let cone = c.in_ok-cone.cone.items in
    let m : NumberingValue = record { inputs = c.inputs-inputs.result; rows = rows; cone = cone; outputs = c.outputs.result } in
    let is : m ≡ numbering_of net l =
    numbering-by_parts net l m c.inputs-inputs.ensures.count c.in_ok-rows.ensures
    (c.in_ok-cone.ensures.items ∙ c.cone.ensures.value) c.outputs.ensures.count in
    let row : ℕ = 2 + (c.inputs-inputs.result + c.nodes.result) in
    let cell : ℕ = row + c.rows.result in
    let at_row : row ≡ first_row m = omega (arith, ap length c.in_ok-rows.ensures, nodes-is net l) in
    let at_cell : cell ≡ first_cell m = omega (arith, at_row, ap sum c.in_ok-rows.ensures, row_count-is net l) in
    let members = c.count_flags.ensures ∙ ap (λ (bs : List Bool). count_by (λ b. b) bs) c.deref-3.ensures.value in
    IsNumbering-from net l m c.in_ok-sums_before.field-0.items c.in_ok-flags_before.field-0.items row cell (cell + c.count_flags.result)
    h is
    (c.in_ok-sums_before.ensures ∙ ap (λ (xs : List ℕ). list_of (length xs) (sum_before row xs)) c.deref.ensures.value)
    at_row
    (c.in_ok-flags_before.ensures ∙ ap (λ (bs : List Bool). list_of (length bs) (flags_before cell bs)) c.deref-2.ensures.value)
    at_cell
    (omega (arith, at_cell, members))
