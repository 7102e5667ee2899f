use Rattle.std.proofs.Common.{ℕ, ◌↔◌, ◌⊎◌, inl, inr, List, [], length, get_or, refl, sym, subst, ◌∙◌, ap, arith}
use Rattle.std.proofs.lemmas.List.{take_all, get_or_default}
use Rattle.clause_defs.specs.Literals.{Literal}
use Rattle.clause_defs.specs.Clauses.{Lits, Has}
use Rattle.chain_check.specs.ByPlace.{parts_of}
use Rattle.chain_check.specs.Known.{literals_at}
use Rattle.chain_check.proofs.ChainLemmas.{Has-get_or}
use Rattle.chain_check.proofs.ClauseLists.{none_from}
use Rattle.chain_check.proofs.RoomLemmas.{split_more, gone_more, all_moved}
use Rattle.chain_check.proofs.room.gather.Goals as goal

-- nothing was moved yet
pub loop-p-init : goal.loop-p-init
loop-p-init c = record {
  variables = refl;
  between_steps = c.requires.between_steps;
  split = λ x. (λ h. inr h, λ h. elim h [ inl k ↦ absurd (let none : Has [] x = subst (λ (o : Lits). Has o x) c.requires.empty k in none) | inr k ↦ k ]);
  gone = λ x h p i. absurd i;
  all = let none = ap length c.requires.empty in omega arith;
  room = refl;
}

-- each antecedent is a clause of the trace
pub known_literals-requires-clause-within : goal.known_literals-requires-clause-within
known_literals-requires-clause-within c =
    let ps = c.antecedents-p-items.result.now in
    let earlier = c.antecedents-p-items.ensures.earlier (get_or ps c.loop-p.p-index 0) (Has-get_or ps c.loop-p.p-index c.loop-p-test.true) in
    let within = c.requires.within in omega arith

-- the literals of one more antecedent were moved
pub loop-p-preserved : goal.loop-p-preserved
loop-p-preserved c =
    let g = literals_at c.args.t.now (parts_of c.args.lits.now c.args.spans.now) in
    let ps = c.antecedents-p-items.result.now in
    let i = c.loop-p.p-index in
    let p = get_or ps i 0 in
    let inv = c.loop-p.invariant in
    let r = c.loop-p.m.running in
    let r2 = c.move_to.new.self.running in
    let left = subst (λ (d : Lits). (x : Literal) → Has r2 x ↔ (Has r x × (Has d x → ⊥))) c.known_literals.ensures c.move_to.ensures.running in
    let moved = subst (λ (d : Lits). (x : Literal) → Has c.move_to.new.list.items x ↔ (Has c.loop-p.list.items x ⊎ (Has r x × Has d x))) c.known_literals.ensures c.move_to.ensures.moved in
    record {
      variables = c.move_to.ensures.variables ∙ inv.variables;
      between_steps = c.move_to.ensures.fresh;
      split = split_more c.args.m.now.running c.loop-p.list.items r c.move_to.new.list.items r2 (g p) inv.split left moved;
      gone = gone_more g r r2 ps i p c.loop-p-test.true (get_or_default ps i 0 p c.loop-p-test.true) left inv.gone;
      all = c.move_to.ensures.all ∙ inv.all;
      room = c.move_to.ensures.room ∙ inv.room;
    }

-- where nothing is left, all was moved
pub returns-then-is_empty-clause-same : goal.returns-then-is_empty-clause-same
returns-then-is_empty-clause-same c =
    all_moved c.args.m.now.running c.loop-p.list.items c.loop-p.m.running c.loop-p.invariant.split (c.is_empty.ensures.0 c.if-is_empty.true)

-- where nothing is left, as many were moved as there were
pub returns-then-is_empty-clause-all : goal.returns-then-is_empty-clause-all
returns-then-is_empty-clause-all c =
    let none = ap length (c.is_empty.ensures.0 c.if-is_empty.true) in
    let all = c.loop-p.invariant.all in omega arith

-- behind the last antecedent nothing is left
pub returns-clause-all : goal.returns-clause-all
returns-clause-all c =
    let ps = c.antecedents-p-items.result.now in
    let none = none_from c.loop-p.m.running (λ x h.
    let from = c.requires.antecedents x ((c.loop-p.invariant.split x).1 (inr h)) in
    c.loop-p.invariant.gone x h from.0
    (subst (λ (qs : List ℕ). Has qs from.0) (sym (take_all c.loop-p.p-index ps c.loop-p-test.false ∙ c.antecedents-p-items.ensures.antecedents)) from.1) from.2) in
    let nothing = ap length none in
    let all = c.loop-p.invariant.all in omega arith
