use Rattle.std.proofs.Common.{length}
use Rattle.live_spans.specs.Uses.{AreSpansSoFar}
use Rattle.live_spans.proofs.uses.spans_of.Given as goal

abbrev pub invariant-loop-k : goal.invariant-loop-k
invariant-loop-k l = AreSpansSoFar l.l l.columns l.last l.k 0 l.spans.items

abbrev pub invariant-loop-o : goal.invariant-loop-o
invariant-loop-o l = AreSpansSoFar l.l l.columns l.last (length l.l.cells) l.o l.spans.items
