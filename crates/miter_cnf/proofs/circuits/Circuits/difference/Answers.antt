use Rattle.std.proofs.Common.{ap, ◌∙◌}
use Rattle.miter_defs.specs.Numberings.{difference_variable}
use Rattle.miter_defs.specs.Miters.{positive}
use Rattle.miter_cnf.specs.Circuits.{Circuits}
use Rattle.miter_cnf.proofs.circuits.Circuits.difference.Goals as goal

-- the number of a difference is that of the miter
pub returns : goal.returns
returns c =
    let a = c.self.inside in
    c.from_parts.ensures.parts
    ∙ ap positive (c.difference.ensures.variable a.net.now a.cells.now c.self.invariant.numbering)
    ∙ ap (λ (s : Circuits). positive (difference_variable s.net s.cells c.args.o)) c.self.view_is
