use Rattle.std.proofs.Common.{◌≡◌}
use Rattle.conflict_lesson.proofs.lesson.Lesson.bump.Given as goal

-- the order keeps its places
abbrev pub invariant-loop-index : goal.invariant-loop-index
invariant-loop-index l = l.order ≡ l.fn.order
