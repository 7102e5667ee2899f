use Rattle.std.proofs.Common.{◌≡◌, ◌+◌, ◌-◌, ◌<◌, ℕ, List, length, get_or, ap, sym, subst, ◌∙◌, arith}
use Rattle.std.proofs.lemmas.List.{length_push, get_or_default}
use Rattle.route_defs.specs.Spans.{need}
use Rattle.needs.proofs.Counting.{passed_next, passed_none, ended-le, live_now, need-le, needs_pushed}
use Rattle.needs.proofs.channels.needs_of.Goals as goal

pub loop-c-init : goal.loop-c-init
loop-c-init c = record {
  count = ap length c.in_ok-needs.ensures.items;
  running = sym (passed_none c.args.spans.now);
  needs = λ j lt. absurd (omega arith);
}

pub overflow_sub-live : goal.overflow_sub-live
overflow_sub-live c =
    ended-le c.args.spans.now c.loop-c.c c.loop-c.live c.index.result.now c.loop-c.invariant.running
    (c.index.ensures ∙ get_or_default c.in_ok-turns.turns.ends.items c.loop-c.c c.index.result.now 0 (omega (arith, c.in_ok-turns.ensures.ends, c.loop-c-test.true)) ∙ c.in_ok-turns.ensures.ended c.loop-c.c)

pub overflow_add-live : goal.overflow_add-live
overflow_add-live c =
    let now : c.loop-c.live - c.index.result.now + c.index-in-loop-c.result.now ≡ need c.args.spans.now c.loop-c.c =
    live_now c.args.spans.now c.loop-c.c c.loop-c.live c.index.result.now c.index-in-loop-c.result.now c.loop-c.invariant.running
    (c.index.ensures ∙ get_or_default c.in_ok-turns.turns.ends.items c.loop-c.c c.index.result.now 0 (omega (arith, c.in_ok-turns.ensures.ends, c.loop-c-test.true)) ∙ c.in_ok-turns.ensures.ended c.loop-c.c)
    (c.index-in-loop-c.ensures ∙ get_or_default c.in_ok-turns.turns.begins.items c.loop-c.c c.index-in-loop-c.result.now 0 (omega (arith, c.in_ok-turns.ensures.begins, c.loop-c-test.true)) ∙ c.in_ok-turns.ensures.begun c.loop-c.c) in
    omega (arith, now, need-le c.args.spans.now c.loop-c.c, c.requires.few)

pub loop-c-preserved : goal.loop-c-preserved
loop-c-preserved c =
    let spans = c.args.spans.now in
    let k = c.loop-c.c in
    let n : ℕ = c.loop-c.live - c.index.result.now + c.index-in-loop-c.result.now in
    let now : n ≡ need spans k =
    live_now spans k c.loop-c.live c.index.result.now c.index-in-loop-c.result.now c.loop-c.invariant.running
    (c.index.ensures ∙ get_or_default c.in_ok-turns.turns.ends.items k c.index.result.now 0 (omega (arith, c.in_ok-turns.ensures.ends, c.loop-c-test.true)) ∙ c.in_ok-turns.ensures.ended k)
    (c.index-in-loop-c.ensures ∙ get_or_default c.in_ok-turns.turns.begins.items k c.index-in-loop-c.result.now 0 (omega (arith, c.in_ok-turns.ensures.begins, c.loop-c-test.true)) ∙ c.in_ok-turns.ensures.begun k) in
    record {
      count = ap length c.in_ok-push.ensures.items ∙ length_push c.loop-c.needs.items n ∙ omega (arith, c.loop-c.invariant.count);
      running = now ∙ sym (passed_next spans k);
      needs = let P : List ℕ → Type 0 = λ l. (j : ℕ) → j < k + 1 → get_or l j 0 ≡ need spans j in
          subst P (sym c.in_ok-push.ensures.items)
          (needs_pushed spans c.loop-c.needs.items k n c.loop-c.invariant.count now c.loop-c.invariant.needs);
    }
