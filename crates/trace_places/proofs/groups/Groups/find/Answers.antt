use Rattle.std.proofs.Common.{◌≡◌, ◌+◌, ◌-◌, get_or, inl, inr, subst, sym, ◌∙◌, arith}
use Rattle.std.proofs.lemmas.Bool.{cases_lt}
use Rattle.std.proofs.lemmas.List.{get_or_default}
use Rattle.trace_places.proofs.groups.Groups.find.Goals as goal

-- one more slot doesn't have the index
pub loop-slot-preserved : goal.loop-slot-preserved
loop-slot-preserved c s k low lt mark number index = elim (cases_lt s c.loop-slot.slot) [
  | inl before ↦ c.loop-slot.invariant s k low before mark number index
  | inr at ↦
      let here : s ≡ c.loop-slot.slot = omega arith in
      c.has.ensures.other c.if-has.false k
      (subst (λ n. get_or c.args.self.now.tags.items n 0 ≡ c.tag-tag.result) here mark)
      (subst (λ n. get_or c.args.self.now.numbers.items n 0 ≡ k + 1) here number)
      index
]

-- no slot of the group has the index
pub returns-clause-none : goal.returns-clause-none
returns-clause-none c k index stands =
    let first = c.first-first.ensures.first in
    let low = stands.low in
    let high = stands.high in
    let done = c.loop-slot-test.false in
    c.loop-slot.invariant stands.slot k (omega arith) (omega arith) (stands.tag ∙ sym c.tag-tag.ensures) stands.number index

-- the slot's place is one of these indices, and has this index
pub returns-then-has-clause-some : goal.returns-then-has-clause-some
returns-then-has-clause-some c =
    let first = c.first-first.ensures.within in
    let many = c.requires.slots.many_numbers in
    let before = c.loop-slot-test.true in
    let read : c.index.result.now ≡ get_or c.args.self.now.numbers.items c.loop-slot.slot 0 =
    c.index.ensures ∙ get_or_default c.args.self.now.numbers.items c.loop-slot.slot c.index.result.now 0 (omega arith) in
    let some = c.has.ensures.some c.if-has.true in
    let number : get_or c.args.self.now.numbers.items c.loop-slot.slot 0 ≡ c.index.result.now - 1 + 1 = omega arith in
    (c.requires.within c.loop-slot.slot (c.index.result.now - 1) number, c.has.ensures.same c.if-has.true (c.index.result.now - 1) number)
