use Rattle.std.proofs.Common.{sym, ap, ◌∙◌}
use Rattle.net_defs.specs.Evaluation.{bits_at, output_signals}
use Rattle.net_defs.proofs.AssignmentLemmas.{assignment_is_unique}
use Rattle.net_defs.proofs.laws.outputs_are_unique.Goals as goal

-- the outputs are read off the one assignment
pub returns : goal.returns
returns c net x y z acyclic p q =
    p.2 ∙ ap (λ a. bits_at a (output_signals net)) (assignment_is_unique net x p.0 q.0 acyclic p.1 q.1) ∙ sym q.2
