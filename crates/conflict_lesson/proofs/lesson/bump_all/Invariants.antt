use Rattle.std.proofs.Common.{◌≡◌}
use Rattle.conflict_lesson.proofs.lesson.bump_all.Given as goal

-- the order keeps its places
abbrev pub invariant-loop-l : goal.invariant-loop-l
invariant-loop-l l = l.order ≡ l.fn.order
