use Rattle.std.proofs.Common.{◌≡◌, ◌++◌, map, replicate, take}
use Rattle.route_defs.specs.Spans.{no_span}
use Rattle.live_spans.specs.Uses.{entering}
use Rattle.live_spans.proofs.uses.unused_spans.Given as goal

abbrev pub invariant-loop-column : goal.invariant-loop-column
invariant-loop-column l =
    l.spans.items ≡ replicate l.fn.inputs no_span ++ map entering (take l.column-index l.columns)
