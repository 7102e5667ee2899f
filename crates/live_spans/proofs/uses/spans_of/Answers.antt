use Rattle.std.proofs.Common.{◌≡◌, ◌<◌, ◌+◌, ◌++◌, ℕ, List, length, map, replicate, get_or, All, refl, ap, subst, sym, ◌∙◌, arith}
use Rattle.std.proofs.lemmas.Option.{get_or_from_slice_get}
use Rattle.cell_defs.specs.declared.source.Source.{Source}
use Rattle.cell_defs.specs.declared.source.Source.TheVariants.{Zero}
use Rattle.cell_defs.specs.Cells.{IsSourceBelow}
use Rattle.route_defs.specs.Spans.{no_span}
use Rattle.route_laws.proofs.SourceLemmas.{pins_below}
use Rattle.live_spans.specs.Uses.{entering, AreSpansSoFar}
use Rattle.live_spans.proofs.UseLemmas.{none_so_far, cell_so_far, output_so_far, all_so_far}
use Rattle.live_spans.proofs.uses.spans_of.Goals as goal

pub loop-k-init : goal.loop-k-init
loop-k-init c =
    let columns = c.args.columns.now in
    let made : c.in_ok-spans.spans.items ≡ replicate c.inputs.result no_span ++ map entering columns = c.in_ok-spans.ensures in
    none_so_far c.args.l.now columns c.args.last c.in_ok-spans.spans.items c.requires.count
    (made ∙ ap (λ n. replicate n no_span ++ map entering columns) c.inputs.ensures.count)

pub listen_all-requires-clause-below : goal.listen_all-requires-clause-below
listen_all-requires-clause-below c =
    let l = c.args.l.now in
    let lt : c.loop-k.k < length l.cells = omega (arith, c.loop-k-test.true, c.len-k-end.ensures.count) in
    let P : List Source → Type 0 = λ ss. All (IsSourceBelow l.inputs (length l.cells)) ss in
    subst P (sym c.pins.ensures.pins) (pins_below l c.loop-k.k c.pins.ensures.known.mapped.settled lt)

pub loop-k-preserved : goal.loop-k-preserved
loop-k-preserved c =
    let columns = c.args.columns.now in
    cell_so_far c.args.l.now columns c.args.last c.loop-k.k (get_or columns c.loop-k.k 0 + 1) c.loop-k.spans.items
    c.listen_all.new.spans.items c.pins.result.now c.loop-k.invariant c.pins.ensures.pins refl c.listen_all.ensures

pub loop-o-init : goal.loop-o-init
loop-o-init c =
    let l = c.args.l.now in
    let P : ℕ → Type 0 = λ n. AreSpansSoFar l c.args.columns.now c.args.last n 0 c.loop-k.spans.items in
    let all : c.loop-k.k ≡ length l.cells = omega (arith, c.loop-k.auto.k-end, c.loop-k-test.false, c.len-k-end.ensures.count) in
    subst P all c.loop-k.invariant

pub listen-requires-clause-below : goal.listen-requires-clause-below
listen-requires-clause-below c =
    let l = c.args.l.now in
    let lt : c.loop-o.o < length l.outputs = omega (arith, c.loop-o-test.true, c.outputs-o-end.ensures.count) in
    let P : Source → Type 0 = λ s. IsSourceBelow l.inputs (length l.cells) s in
    subst P (get_or_from_slice_get l.outputs c.loop-o.o c.output.result Zero c.output.ensures.source)
    (c.output.ensures.known.mapped.outputs c.loop-o.o Zero lt)

pub loop-o-preserved : goal.loop-o-preserved
loop-o-preserved c =
    let l = c.args.l.now in
    let lt : c.loop-o.o < length l.outputs = omega (arith, c.loop-o-test.true, c.outputs-o-end.ensures.count) in
    output_so_far l c.args.columns.now c.args.last (length l.cells) c.loop-o.o (c.args.last + 1) c.loop-o.spans.items
    c.listen.new.spans.items c.output.result c.loop-o.invariant refl lt
    (get_or_from_slice_get l.outputs c.loop-o.o c.output.result c.output.result c.output.ensures.source) c.listen.ensures

pub returns : goal.returns
returns c =
    let l = c.args.l.now in
    all_so_far l c.args.columns.now c.args.last (length l.cells) c.loop-o.o c.loop-o.spans.items c.loop-o.invariant refl
    (omega (arith, c.loop-o.auto.o-end, c.loop-o-test.false, c.outputs-o-end.ensures.count))
