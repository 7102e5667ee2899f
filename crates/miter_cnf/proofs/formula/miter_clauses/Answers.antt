use Rattle.std.proofs.Common.{ap, ◌∙◌}
use Rattle.miter_defs.specs.Numberings.{variable_count}
use Rattle.miter_defs.specs.Miters.{Miter}
use Rattle.miter_cnf.specs.Circuits.{Circuits}
use Rattle.miter_cnf.proofs.FormulaLemmas.{miter-within, miter-sound}
use Rattle.miter_cnf.proofs.formula.miter_clauses.Goals as goal

-- the numbering counts the variables of the miter
pub returns-clause-variables : goal.returns-clause-variables
returns-clause-variables c =
    let a = c.circuits.inside in
    c.variables.ensures.count a.net.now a.cells.now c.circuits.invariant.numbering
    ∙ ap (λ (s : Circuits). variable_count s.net s.cells) (c.circuits.view_is ∙ c.in_ok-circuits.ensures.circuits)

-- the clauses are over these variables
pub returns-clause-within : goal.returns-clause-within
returns-clause-within c =
    let a = c.circuits.inside in
    let is = c.in_ok-circuits.ensures.circuits in
    miter-within c.args.net.now c.args.cells.now c.variables.result c.in_ok-clauses.field-0 c.of.ensures.known.is_net
    (c.variables.ensures.count a.net.now a.cells.now c.circuits.invariant.numbering
    ∙ ap (λ (s : Circuits). variable_count s.net s.cells) (c.circuits.view_is ∙ is))
    (c.in_ok-clauses.ensures ∙ ap (λ (s : Circuits). (Miter s.net s.cells).clauses) is)

-- where nothing satisfies them, the net equals each configuration with the cells
pub returns-clause-sound : goal.returns-clause-sound
returns-clause-sound c =
    let a = c.circuits.inside in
    let is = c.in_ok-circuits.ensures.circuits in
    miter-sound c.args.net.now c.args.cells.now c.variables.result c.in_ok-clauses.field-0 c.of.ensures.known
    (c.variables.ensures.count a.net.now a.cells.now c.circuits.invariant.numbering
    ∙ ap (λ (s : Circuits). variable_count s.net s.cells) (c.circuits.view_is ∙ is))
    (c.in_ok-clauses.ensures ∙ ap (λ (s : Circuits). (Miter s.net s.cells).clauses) is)
