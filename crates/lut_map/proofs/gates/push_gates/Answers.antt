use Rattle.std.proofs.Common.{◌≡◌, ◌-◌, ◌∙◌, ◌++◌, ◌∷◌, [], ap, arith, length}
use Rattle.std.specs.Prelude.{Vec}
use Rattle.std.specs.declared.alloc.Global.{Global}
use Rattle.map_defs.specs.declared.term.Term.{Term}
use Rattle.map_defs.specs.Gates.{gate_cell, round_cells, round_terms}
use Rattle.lut_map.proofs.GateSteps.{round_fewer, way_more, way_ends}
use Rattle.lut_map.proofs.gates.push_gates.Goals as goal

pub loop-cells-smaller : goal.loop-cells-smaller
loop-cells-smaller c =
    let next = length c.loop-cells.cells - c.args.first in
    let leaves : c.swap.new.x.items ≡ round_terms next c.loop-cells.terms.items =
    ap (λ (v : Vec Term Global). v.items) c.swap.ensures.x_after ∙ c.in_ok-push_round.ensures.left ∙ ap (round_terms next) c.deref.ensures.value in
    round_fewer next c.loop-cells.terms.items c.swap.new.x.items (omega (arith, c.len.ensures)) leaves

pub loop-cells-preserved : goal.loop-cells-preserved
loop-cells-preserved c =
    let next = length c.loop-cells.cells - c.args.first in
    let leaves : c.swap.new.x.items ≡ round_terms next c.loop-cells.terms.items =
    ap (λ (v : Vec Term Global). v.items) c.swap.ensures.x_after ∙ c.in_ok-push_round.ensures.left ∙ ap (round_terms next) c.deref.ensures.value in
    way_more c.args.cells.now c.args.gate c.args.negated c.args.first c.args.terms.now.items c.loop-cells.cells c.loop-cells.terms.items
    c.push_round.new.cells c.swap.new.x.items c.loop-cells.invariant (omega (arith, c.len.ensures))
    (c.in_ok-push_round.ensures.cells ∙ ap (λ l. c.loop-cells.cells ++ round_cells c.args.gate l) c.deref.ensures.value) leaves

pub returns-clause-cells : goal.returns-clause-cells
returns-clause-cells c =
    way_ends c.args.cells.now c.args.gate c.args.negated c.args.first c.args.terms.now.items c.loop-cells.cells c.loop-cells.terms.items
    c.push_gate.new.self c.loop-cells.invariant (omega (arith, c.len.ensures))
    (c.in_ok-push_gate.ensures.cells ∙ ap (λ l. c.loop-cells.cells ++ gate_cell c.args.gate c.args.negated l ∷ []) c.deref-2.ensures.value)
