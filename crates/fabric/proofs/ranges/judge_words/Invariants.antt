use Rattle.fabric.specs.Ranges.{AreAtMost}
use Rattle.fabric.proofs.ranges.judge_words.Given as goal

-- the words so far are at most the greatest
abbrev pub invariant-loop-place : goal.invariant-loop-place
invariant-loop-place l = AreAtMost l.most l.words l.at l.place
