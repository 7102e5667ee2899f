use Rattle.std.proofs.Common.{◌≡◌, ◌++◌, length}
use Rattle.blif_defs.specs.Words.{words}
use Rattle.blif_read.specs.Views.{texts}
use Rattle.blif_read.proofs.line.push_words.Given as goal

-- the words so far and those of the rest are all words of the line
abbrev pub invariant-loop-rest : goal.invariant-loop-rest
invariant-loop-rest l = texts l.list.items ++ words l.rest ≡ texts l.fn.list.items ++ words l.line

-- the rest gets shorter
abbrev pub decreases-loop-rest : goal.decreases-loop-rest
decreases-loop-rest l = length l.rest
