use Rattle.std.specs.Arc.{arc_value}
use Rattle.demonstration.proofs.JudgingLemmas.{accepted_not_refused}
use Rattle.demonstration.proofs.demonstrating.judged.Goals as goal

-- what is accepted isn't refused
pub unreachable-requires : goal.unreachable-requires
unreachable-requires g c =
    accepted_not_refused c.args.g (arc_value c.args.spec.now) c.args.bundle.now c.in-Err.refusal c.requires c.in-Err.ensures.refused
    c.in_default.not-NoMemory
