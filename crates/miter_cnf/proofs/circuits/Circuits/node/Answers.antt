use Rattle.std.proofs.Common.{ap, ◌∙◌}
use Rattle.miter_defs.specs.Numberings.{node_variable}
use Rattle.miter_defs.specs.Miters.{positive}
use Rattle.miter_cnf.specs.Circuits.{Circuits}
use Rattle.miter_cnf.proofs.circuits.Circuits.node.Goals as goal

-- the number of a node is that of the miter
pub returns : goal.returns
returns c =
    let a = c.self.inside in
    c.from_parts.ensures.parts
    ∙ ap positive (c.node.ensures.variable a.net.now a.cells.now c.self.invariant.numbering)
    ∙ ap (λ (s : Circuits). positive (node_variable s.net c.args.v)) c.self.view_is
