use Rattle.std.proofs.Common.{◌+◌, ◌≤◌, ℕ, List, length, ap, subst, sym, ◌∙◌, arith}
use Rattle.route_defs.specs.declared.span.Span.{Span}
use Rattle.route_defs.specs.Spans.{span_at, need}
use Rattle.route_defs.specs.Signals.{AreSpans}
use Rattle.route_laws.proofs.SignalLemmas.{ends-le}
use Rattle.least_fabric.specs.LeastFabrics.{greatest}
use Rattle.least_fabric.proofs.LeastLemmas.{taken, column-lt, few-columns, least_is}
use Rattle.least_fabric.proofs.least.least_fabric.Goals as goal

-- there are no more columns than there may be cells
pub overflow_add-used : goal.overflow_add-used
overflow_add-used c =
    let less = few-columns c.greatest-used.result (length c.in_ok-luts.luts.cells) c.columns-columns.result.now c.greatest-used.ensures
    (λ k lt. c.columns-columns.ensures.small k 0 lt) c.columns-columns.ensures.known.few.cells in
    omega (arith, less)

pub spans_of-requires-clause-last : goal.spans_of-requires-clause-last
spans_of-requires-clause-last c =
    few-columns c.greatest-used.result (length c.in_ok-luts.luts.cells) c.columns-columns.result.now c.greatest-used.ensures
    (λ k lt. c.columns-columns.ensures.small k 0 lt) c.columns-columns.ensures.known.few.cells

-- each column is there
pub rows_of-requires-clause-within : goal.rows_of-requires-clause-within
rows_of-requires-clause-within c =
    column-lt c.greatest-used.result c.columns-columns.result.now c.greatest-used.ensures

pub needs_of-requires-clause-channels : goal.needs_of-requires-clause-channels
needs_of-requires-clause-channels c =
    let less = few-columns c.greatest-used.result (length c.in_ok-luts.luts.cells) c.columns-columns.result.now c.greatest-used.ensures
    (λ k lt. c.columns-columns.ensures.small k 0 lt) c.columns-columns.ensures.known.few.cells in
    omega (arith, less)

-- so all signals end within the channels
pub needs_of-requires-clause-within : goal.needs_of-requires-clause-within
needs_of-requires-clause-within c =
    let top = c.greatest-used.result in
    let l = c.in_ok-luts.luts in
    let columns = c.columns-columns.result.now in
    let spans = c.in_ok-spans.spans.items in
    λ i lt. let P : List Span → Type 0 = λ ss. (span_at ss i).end ≤ top + 1 + 1 in
    subst P (sym c.deref.ensures.value)
    (ends-le l columns (top + 1) spans c.in_ok-spans.ensures
    (λ k less. column-lt top columns c.greatest-used.ensures k (omega (arith, less, c.columns-columns.ensures.columns.count)))
    i (omega (arith, lt, ap length c.deref.ensures.value)))

-- and what was counted is what the fabric has
pub returns : goal.returns
returns c =
    let top = c.greatest-used.result in
    let l = c.in_ok-luts.luts in
    let columns = c.columns-columns.result.now in
    let spans = c.in_ok-spans.spans.items in
    let L : ℕ → Type 0 = λ last. AreSpans l columns last spans in
    record {
      mapped = l;
      reference = c.in_ok-luts.ensures.reference;
      columns = columns;
      are_columns = c.columns-columns.ensures.columns;
      spans = spans;
      are_spans = subst L (taken top columns c.greatest-used.ensures) c.in_ok-spans.ensures;
      least = least_is l columns c.in_ok-rows.rows.counts.items c.in_ok-needs.needs.items spans c.limited_fabric.result top c.greatest.result
          c.greatest-2.result c.inputs.result c.outputs.result c.limited_fabric.ensures c.greatest-used.ensures
          (c.greatest.ensures ∙ ap greatest c.deref-2.ensures.value) c.in_ok-rows.ensures.count c.in_ok-rows.ensures.counts
          (c.greatest-2.ensures ∙ ap greatest c.deref-3.ensures.value) c.in_ok-needs.ensures.count
          (λ k below. c.in_ok-needs.ensures.needs k below ∙ ap (λ ss. need ss k) c.deref.ensures.value)
          c.inputs.ensures.count c.outputs.ensures.count;
    }
