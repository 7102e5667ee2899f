use Rattle.std.proofs.Common.{take}
use Rattle.live_spans.specs.Uses.{AreExtended}
use Rattle.live_spans.proofs.uses.listen_all.Given as goal

abbrev pub invariant-loop-source : goal.invariant-loop-source
invariant-loop-source l =
    AreExtended l.l l.fn.spans.items l.spans.items (take l.source-index l.sources) l.end
