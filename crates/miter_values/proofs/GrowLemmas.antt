-- More variables with values.
use Rattle.std.proofs.Common.{◌≡◌, ℕ, ◌≤◌, ◌↔◌, ◌⊎◌, inl, inr, Bool, true, false, not, List, [], ◌∷◌, ◌++◌, length, set, refl, sym, ◌∙◌, ap, subst, length-set}
use Rattle.std.proofs.lemmas.List.{append_assoc, append-nil, get_or-set_same, get_or-set_other}
use Rattle.clause_defs.specs.Literals.{Literal}
use Rattle.clause_defs.specs.Clauses.{Lits, Has, SameSet, clause_of}
use Rattle.clause_laws.proofs.ClauseOf.{SameSet-clause_of}
use Rattle.chain_check.proofs.ClauseLists.{Has-snoc}
use Rattle.leaf_defs.specs.Evaluated.{Evaluated, value_of, true_literal, IsReason, IsEvaluated, clause_numbered}
use Rattle.leaf_chain.specs.Growing.{IsWithout, with_implied}
use Rattle.leaf_chain.proofs.GrowingLemmas.{evaluated_implied}
use Rattle.miter_defs.specs.Miters.{literal}
use Rattle.miter_values.specs.Growing.{IsTrueIn, IsFalseIn, IsForced, Grows}

-- a forced literal is forced by each clause that is the same set
pub forced_same : (e : Evaluated) (l : Literal) (c d : Lits) → SameSet c d → IsForced e l c → IsForced e l d
forced_same e l c d same h = record {
  implied = (same l).0 h.implied;
  others = λ m here. h.others m ((same m).1 here);
}

-- so it is by the set of its literals
pub forced_set : (e : Evaluated) (l : Literal) (c : Lits) → IsForced e l c → IsForced e l (clause_of c)
forced_set e l c h = record {
  implied = (SameSet-clause_of c l).1 h.implied;
  others = λ m here. h.others m ((SameSet-clause_of c m).0 here);
}

-- a literal is its variable and its sign
literal_is : (l : Literal) (v : ℕ) (b : Bool) → l.variable ≡ v → l.positive ≡ b → l ≡ record { variable = v; positive = b }
literal_is l v b e s = λ i. record { variable = e i; positive = s i }

-- two negations cancel out
not_not : (b : Bool) → not (not b) ≡ b
not_not true = refl
not_not false = refl

module _ (f : List Lits) (e : Evaluated) (v number : ℕ) (value : Bool) (evaluated : IsEvaluated f e) (without : IsWithout e v)
    (low : 1 ≤ number) (high : number ≤ length f) (forced : IsForced e (literal v value) (clause_numbered f number)) where
  -- the variable has its new value
  value_same : value_of (set e.values v value) v ≡ value
  value_same = get_or-set_same e.values v value false without.high

  -- the others keep theirs
  value_kept : (u : ℕ) → Has e.order u → value_of (set e.values v value) u ≡ value_of e.values u
  value_kept u h = get_or-set_other e.values v u value false (λ same. without.fresh (subst (Has e.order) same h))

  -- its true literal is the one that the clause leaves
  true_is : true_literal (set e.values v value) v ≡ literal v value
  true_is = ap (literal v) value_same

  -- so the clause is its reason
  is_reason : IsReason (set e.values v value) e.order v (clause_numbered f number)
  is_reason = record {
    implied = subst (Has (clause_numbered f number)) (sym true_is) forced.implied;
    others = λ l here other. elim (forced.others l here) [
      | inl same ↦ absurd (other (same ∙ sym true_is))
      | inr is_false ↦ (
        literal_is l l.variable (not (value_of (set e.values v value) l.variable)) refl
            (sym (not_not l.positive) ∙ ap not (sym is_false.value) ∙ ap not (sym (value_kept l.variable is_false.known))),
        is_false.known,
      )
    ];
  }

  -- one more variable has the value that its clause leaves
  pub grows_implied : Grows f e (with_implied e v value number) (λ u. u ≡ v)
  grows_implied = record {
    evaluated = evaluated_implied f e v value evaluated without number low high is_reason;
    places = length-set e.values v value;
    chosen = refl;
    more = v ∷ [];
    order = refl;
    values = value_kept;
    known = λ u. (
      λ h. elim ((Has-snoc e.order v u).0 h) [ inl old ↦ inl old | inr same ↦ inr (sym same) ],
      λ h. elim h [ inl old ↦ (Has-snoc e.order v u).1 (inl old) | inr same ↦ (Has-snoc e.order v u).1 (inr (sym same)) ],
    );
  }

  -- it has that value
  pub implied_value : value_of (with_implied e v value number).values v ≡ value
  implied_value = value_same

-- nothing grows
pub grows_none : (f : List Lits) (e : Evaluated) (none : ℕ → Type 0) → IsEvaluated f e → ((u : ℕ) → none u → ⊥) → Grows f e e none
grows_none f e none h nothing = record {
  evaluated = h;
  places = refl;
  chosen = refl;
  more = [];
  order = sym (append-nil e.order);
  values = λ u k. refl;
  known = λ u. (λ k. inl k, λ k. elim k [ inl old ↦ old | inr new ↦ absurd (nothing u new) ]);
}

-- one growth after the other
pub grows_both : (f : List Lits) (a b c : Evaluated) (first second all : ℕ → Type 0) → Grows f a b first → Grows f b c second
    → ((u : ℕ) → all u ↔ (first u ⊎ second u)) → Grows f a c all
grows_both f a b c first second all p q same = record {
  evaluated = q.evaluated;
  places = q.places ∙ p.places;
  chosen = q.chosen ∙ p.chosen;
  more = p.more ++ q.more;
  order = q.order ∙ ap (λ xs. xs ++ q.more) p.order ∙ append_assoc a.order p.more q.more;
  values = λ u h. q.values u ((p.known u).1 (inl h)) ∙ p.values u h;
  known = λ u. (
    λ h. elim ((q.known u).0 h) [
      | inl old ↦ elim ((p.known u).0 old) [ inl before ↦ inl before | inr new ↦ inr ((same u).1 (inl new)) ]
      | inr new ↦ inr ((same u).1 (inr new))
    ],
    λ h. elim h [
      | inl before ↦ (q.known u).1 (inl ((p.known u).1 (inl before)))
      | inr new ↦ elim ((same u).0 new) [
        | inl one ↦ (q.known u).1 (inl ((p.known u).1 (inr one)))
        | inr two ↦ (q.known u).1 (inr two)
      ]
    ],
  );
}

-- a growth by another word for the same variables
pub grows_as : (f : List Lits) (a b : Evaluated) (first second : ℕ → Type 0) → Grows f a b first → ((u : ℕ) → second u ↔ first u) → Grows f a b second
grows_as f a b first second p same = record {
  evaluated = p.evaluated;
  places = p.places;
  chosen = p.chosen;
  more = p.more;
  order = p.order;
  values = p.values;
  known = λ u. (
    λ h. elim ((p.known u).0 h) [ inl old ↦ inl old | inr new ↦ inr ((same u).1 new) ],
    λ h. elim h [ inl old ↦ (p.known u).1 (inl old) | inr new ↦ (p.known u).1 (inr ((same u).0 new)) ],
  );
}

-- literals keep their values
pub false_grows : (f : List Lits) (a b : Evaluated) (news : ℕ → Type 0) (l : Literal) → Grows f a b news → IsFalseIn a l → IsFalseIn b l
false_grows f a b news l p h = record { known = (p.known l.variable).1 (inl h.known); value = p.values l.variable h.known ∙ h.value }

-- the same of true literals
pub true_grows : (f : List Lits) (a b : Evaluated) (news : ℕ → Type 0) (l : Literal) → Grows f a b news → IsTrueIn a l → IsTrueIn b l
true_grows f a b news l p h = record { known = (p.known l.variable).1 (inl h.known); value = p.values l.variable h.known ∙ h.value }

-- the same where the evaluation and the variable are told by equations
pub grows_by : (f : List Lits) (e after : Evaluated) (v w number : ℕ) (value : Bool) → after ≡ with_implied e w value number → w ≡ v
    → IsEvaluated f e → IsWithout e v → 1 ≤ number → number ≤ length f → IsForced e (literal v value) (clause_numbered f number)
    → Grows f e after (λ u. u ≡ v) × (value_of after.values v ≡ value)
grows_by f e after v w number value is same evaluated without low high forced =
    let all : after ≡ with_implied e v value number = is ∙ ap (λ x. with_implied e x value number) same in
    subst (λ (a : Evaluated). Grows f e a (λ u. u ≡ v) × (value_of a.values v ≡ value)) (sym all)
    (grows_implied f e v number value evaluated without low high forced, implied_value f e v number value evaluated without low high forced)
