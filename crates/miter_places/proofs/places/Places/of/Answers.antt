use Rattle.std.proofs.Common.{◌-◌, ◌*◌, length, ap, arith}
use Rattle.clause_defs.specs.Formulas.{Formula}
use Rattle.miter_places.proofs.NumberLaws.{length-from_outputs, outputs-from_cells, cells-from_nodes, places_are}
use Rattle.miter_places.proofs.places.Places.of.Goals as goal

pub first_of_nodes-requires : goal.first_of_nodes-requires
first_of_nodes-requires c =
    let all = length-from_outputs c.args.net.now c.args.cells.now in
    let part = outputs-from_cells c.args.net.now c.args.cells.now in
    let first = cells-from_nodes c.args.net.now c.args.cells.now in
    let same = ap (λ (f : Formula). length f.clauses) c.requires in
    let fits = c.len-clauses.type_inv in
    omega (arith, c.len-clauses.ensures.len)

pub overflow_sub-outputs : goal.overflow_sub-outputs
overflow_sub-outputs c =
    let all = length-from_outputs c.args.net.now c.args.cells.now in
    let same = ap (λ (f : Formula). length f.clauses) c.requires in
    omega (arith, c.len-clauses.ensures.len, c.outputs.ensures.count)

pub overflow_sub-result : goal.overflow_sub-result
overflow_sub-result c =
    let all = length-from_outputs c.args.net.now c.args.cells.now in
    let part = outputs-from_cells c.args.net.now c.args.cells.now in
    let same = ap (λ (f : Formula). length f.clauses) c.requires in
    omega (arith, c.len-clauses.ensures.len, c.outputs.ensures.count, c.clauses_of_cells.ensures c.args.net.now)

pub returns : goal.returns
returns c =
    let all = length-from_outputs c.args.net.now c.args.cells.now in
    let part = outputs-from_cells c.args.net.now c.args.cells.now in
    let same = ap (λ (f : Formula). length f.clauses) c.requires in
    places_are c.args.net.now c.args.cells.now c.in_ok-nodes.nodes.items (c.len-clauses.result - 4 * c.outputs.result - c.clauses_of_cells.result)
    (c.len-clauses.result - 4 * c.outputs.result) c.in_ok-nodes.ensures
    (omega (arith, c.len-clauses.ensures.len, c.outputs.ensures.count, c.clauses_of_cells.ensures c.args.net.now))
    (omega (arith, c.len-clauses.ensures.len, c.outputs.ensures.count))
