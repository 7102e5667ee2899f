use Rattle.std.proofs.Common.{ap, ◌∙◌, length, arith}
use Rattle.miter_cnf.specs.Circuits.{Circuits}
use Rattle.miter_values.proofs.values.MiterValues.signal.Goals as goal

pub returns-else-s-inputs : goal.returns-else-s-inputs
returns-else-s-inputs c =
    let test = c.if-s-inputs.false in
    let count = c.inputs-inputs.ensures.count in
    let own = ap (λ (t : Circuits). length t.net.inputs) c.self.view_is in
    record {
      variable =
          c.node.ensures.variable c.self.inside.net.now c.self.inside.cells.now c.self.invariant.numbered.numbering
          ∙ omega arith;
      within = c.node.ensures.within;
    }
