use Rattle.std.proofs.Common.{◌↔◌, ◌⊎◌, ◌≡◌, ℕ, List, [], ◌∷◌, ◌++◌, inl, inr, length, ap, sym, ◌∙◌, subst, arith, Bool, false, replicate}
use Rattle.std.specs.Vec.{vec_len}
use Rattle.clause_defs.specs.Clauses.{Lits, Has}
use Rattle.leaf_chain.specs.Marks.{Chaining, IsMarked, HasVariable, IsRunning}
use Rattle.leaf_chain.proofs.MarkLemmas.{none_marked}
use Rattle.leaf_chain.proofs.RunningLemmas.{running_start}
use Rattle.leaf_chain.proofs.chains.Chains.start.Goals as goal

pub mark-requires : goal.mark-requires
mark-requires c = λ l h.
    let own = c.requires.all_false l (subst (λ (k : Lits). Has k l) c.clause.ensures.lits h) in
    let within = (c.requires.evaluated.within l.variable own.1).1 in
    let places = ap (λ (k : Chaining). length k.marks) c.self.view_is in
    omega (arith, c.fill.ensures.len, c.requires.room)

pub returns : goal.returns
returns c =
    let places = ap (λ (k : Chaining). length k.marks) c.self.view_is in
    let items : c.push_reserved.new.self.items ≡ c.args.start ∷ [] =
    c.push_reserved.ensures.items ∙ ap (λ (is : List ℕ). is ++ c.args.start ∷ []) c.clear.ensures.items in
    let none : c.fill.new.self.items ≡ replicate (vec_len c.self.inside.marks) false = c.fill.ensures.items (λ y e. e) in
    let running : IsRunning c.args.e.now c.args.log.now c.mark.new.marks.items (c.args.start ∷ []) (length c.args.e.now.order) =
    running_start c.args.e.now c.args.log.now c.args.start c.mark.new.marks.items c.requires.start c.requires.all_false
    (omega (arith, c.mark.ensures.places, c.fill.ensures.len, c.requires.room))
    (λ v.
    let own = subst (λ (k : Lits). IsMarked c.mark.new.marks.items v ↔ (IsMarked c.fill.new.self.items v ⊎ HasVariable k v)) c.clause.ensures.lits (c.mark.ensures.marks v) in (
      λ m. elim (own.0 m) [
        | inl old ↦ absurd (none_marked (vec_len c.self.inside.marks) v (subst (λ (ms : List Bool). IsMarked ms v) none old))
        | inr has ↦ has
      ],
      λ has. own.1 (inr has),
    )) in
    record { running = subst (λ (is : List ℕ). IsRunning c.args.e.now c.args.log.now c.mark.new.marks.items is (length c.args.e.now.order)) (sym items) running }
