use Rattle.std.proofs.Common.{◌≡◌, ◌≤◌, ◌∙◌, arith, take}
use Rattle.std.proofs.lemmas.List.{get_or_default}
use Rattle.route_defs.specs.Spans.{span_at}
use Rattle.needs.specs.Counts.{begun, ended}
use Rattle.needs.proofs.Counting.{begun-le, ended-count-le}
use Rattle.needs.proofs.channels.count_turns.Goals as goal

pub overflow_add-index_mut : goal.overflow_add-index_mut
overflow_add-index_mut c =
    let i = c.loop-span.span-index in
    let s = span_at c.args.spans.now i in
    let few : begun (take i c.args.spans.now) s.first ≤ i = begun-le c.args.spans.now i s.first (omega (arith, c.loop-span-test.true)) in
    let end : s.end ≤ c.args.channels = c.requires.within i c.loop-span-test.true in
    let value : c.index_mut.result.now ≡ begun (take i c.args.spans.now) s.first =
    c.index_mut.ensures.value
    ∙ get_or_default c.loop-span.begins.items s.first c.index_mut.result.now 0 (omega (arith, c.loop-span.invariant.begins, c.if-span.true))
    ∙ c.loop-span.invariant.begun_so_far s.first in
    omega (arith, few, value, c.requires.few, c.loop-span-test.true)

pub overflow_add-index_mut-then-span : goal.overflow_add-index_mut-then-span
overflow_add-index_mut-then-span c =
    let i = c.loop-span.span-index in
    let s = span_at c.args.spans.now i in
    let few : ended (take i c.args.spans.now) s.end ≤ i = ended-count-le c.args.spans.now i s.end (omega (arith, c.loop-span-test.true)) in
    let end : s.end ≤ c.args.channels = c.requires.within i c.loop-span-test.true in
    let value : c.index_mut-then-span.result.now ≡ ended (take i c.args.spans.now) s.end =
    c.index_mut-then-span.ensures.value
    ∙ get_or_default c.loop-span.ends.items s.end c.index_mut-then-span.result.now 0 (omega (arith, c.loop-span.invariant.ends))
    ∙ c.loop-span.invariant.ended_so_far s.end in
    omega (arith, few, value, c.requires.few, c.loop-span-test.true)
