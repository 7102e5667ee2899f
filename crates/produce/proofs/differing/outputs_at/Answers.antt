use Rattle.std.proofs.Common.{List, ℕ, length, sym, ap, ◌∙◌}
use Rattle.produce.proofs.EndLemmas.{aligned_inputs}
use Rattle.produce.proofs.DifferenceLemmas.{differ_with}
use Rattle.produce.proofs.differing.outputs_at.Goals as goal

-- the aligned design has as many inputs as the specification
pub eval-requires-2-clause-width : goal.eval-requires-2-clause-width
eval-requires-2-clause-width c =
    let differ = c.requires.2 in
    differ.width.count
    ∙ sym (ap (λ (names : List (List ℕ)). length names) (aligned_inputs c.args.spec.now c.args.design.now c.in_ok-net.net c.in_ok-net.ensures))

-- what is computed of both is what differs
pub returns : goal.returns
returns c =
    differ_with c.args.spec.now c.args.design.now c.in_ok-net.net c.args.x c.eval.result c.eval-2.result
    c.inputs-spec_inputs.ensures.net c.inputs-design_inputs.ensures.net c.inputs-inputs.ensures.net c.requires c.in_ok-net.ensures
    c.eval.ensures.outputs c.eval-2.ensures.outputs
