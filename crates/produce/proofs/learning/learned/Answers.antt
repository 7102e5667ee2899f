use Rattle.std.proofs.Common.{ap, ◌∙◌, arith}
use Rattle.clause_defs.specs.Formulas.{Formula}
use Rattle.produce.proofs.LearningLemmas.{inputs_within, is_left, found_if}
use Rattle.produce.proofs.learning.learned.Goals as goal

-- the inputs have variables of the miter
pub inputs_at-requires-clause-variables : goal.inputs_at-requires-clause-variables
inputs_at-requires-clause-variables c =
    let within = inputs_within c.args.spec.now c.args.config.now c.args.log.now c.solve.new.log c.geometry-geometry.ensures.known c.requires.miter
    c.solve.ensures.log in
    let count = c.inputs-inputs.ensures.count in
    let over = c.in-Point.ensures.end.over in
    omega arith

-- the input of the point was found, or enough is left
pub returns-in-Point-clause-ends : goal.returns-in-Point-clause-ends
returns-in-Point-clause-ends c =
    found_if c.input_found.result c.args.spec.now c.args.config.now c.args.log.now c.solve.new.log c.inputs_at.result
    c.inputs-inputs.result c.inputs-inputs.ensures.count c.inputs_at.ensures.bits c.input_found.ensures
    (is_left c.args.spec.now c.args.log.now c.solve.new.log c.inputs-inputs.result c.variables.result c.args.budget c.learning_limit-limit.result
    c.solve.ensures.log c.requires.budget c.inputs-inputs.ensures.count
    (c.variables.ensures.variables ∙ ap (λ (f : Formula). f.variables) c.originals.ensures.originals) c.in-Point.ensures.end.not_empty
    (omega (arith, c.solve.ensures.limit, c.in_ok-solver.ensures.limit)) c.learning_limit-limit.ensures.rest)
