use Rattle.std.proofs.Common.{subst, sym, ap, ◌∙◌, length}
use Rattle.net_defs.specs.Networks.{Network}
use Rattle.net_defs.specs.Evaluation.{SpecOut}
use Rattle.netlist.proofs.EvalLemmas.{SpecOut-evaluated}
use Rattle.netlist.proofs.net.Net.eval.Goals as goal

-- inputs, then nodes, then outputs have the bits of the assignment
pub returns-clause-outputs : goal.returns-clause-outputs
returns-clause-outputs c =
    let P : Network → Type 0 = λ m. SpecOut m c.args.x c.output_bits.result in
    subst P c.self.view_is
    (SpecOut-evaluated c.self.inside.network c.args.x c.put_inputs.new.s c.sweep.new.s c.output_bits.result c.self.invariant.is_net
    (c.requires.width ∙ ap (λ (m : Network). length m.inputs) (sym c.self.view_is)) c.put_inputs.ensures.inputs c.sweep.ensures.complete c.output_bits.ensures)
