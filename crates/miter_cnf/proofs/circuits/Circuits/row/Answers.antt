use Rattle.std.proofs.Common.{ap, ◌∙◌}
use Rattle.miter_defs.specs.Numberings.{row_variable}
use Rattle.miter_defs.specs.Miters.{positive}
use Rattle.miter_cnf.specs.Circuits.{Circuits}
use Rattle.miter_cnf.proofs.circuits.Circuits.row.Goals as goal

-- the number of a row is that of the miter
pub returns : goal.returns
returns c =
    let a = c.self.inside in
    c.from_parts.ensures.parts
    ∙ ap positive (c.row.ensures.variable a.net.now a.cells.now c.self.invariant.numbering)
    ∙ ap (λ (s : Circuits). positive (row_variable s.net c.args.v c.args.r)) c.self.view_is
