-- What a map has, and the marks of it.
use Rattle.std.proofs.Common.{◌≡◌, ℕ, ◌==◌, ◌<◌, ◌≤◌, ◌++◌, if◌then◌else◌, cond, List, length, get_or, set, take, replicate, nat_cmp, Option, Some, None, inl, inr, refl, sym, ap, ◌∙◌, subst, arith}
use Rattle.std.proofs.lemmas.Bool.{cases_eq, cond-true, cond-false, eq-eqb, ne_eqb}
use Rattle.std.proofs.lemmas.List.{get_or-set_same, get_or-set_other, take_all}
use Rattle.std.specs.BTreeMap.{is_at}
use Rattle.trace_places.specs.Others.{mark_of, AreMarked}
use Rattle.trace_places.proofs.PlaceLemmas.{is_at_same, is_at_other, get_or-longer}

-- what isn't some place is none
pub none_of : (o : Option ℕ) → ((p : ℕ) → o ≡ Some p → ⊥) → o ≡ None
none_of None h = refl
none_of (Some p) h = absurd (h p refl)

-- what a map has of an index after an insertion
pub updated : (others new : ℕ → Option ℕ) (x q : ℕ) → ((y : ℕ) → new y ≡ cond (is_at (nat_cmp x) y) (Some q) (others y))
    → (y : ℕ) → new y ≡ (if x == y then Some q else others y)
updated others new x q insert y = elim (cases_eq x y) [
  | inl same ↦ subst (λ (z : ℕ). new z ≡ (if x == z then Some q else others z)) same
      (insert x ∙ cond-true (is_at (nat_cmp x) x) (Some q) (others x) (is_at_same x) ∙ sym (cond-true (x == x) (Some q) (others x) (eq-eqb x x refl)))
  | inr other ↦ insert y ∙ cond-false (is_at (nat_cmp x) y) (Some q) (others y) (is_at_other x y other)
      ∙ sym (cond-false (x == y) (Some q) (others y) (ne_eqb x y other))
]

-- with more marks, what the map has is marked
pub marked_more : (marks new_marks : List ℕ) (others : ℕ → Option ℕ) → ((i : ℕ) → 0 < get_or marks i 0 → 0 < get_or new_marks i 0)
    → AreMarked marks others → AreMarked new_marks others
marked_more marks new_marks others kept marked x p e = kept (mark_of x) (marked x p e)

-- with the mark of a new index, what the map has is marked
pub marked_after : (marks new_marks : List ℕ) (others new : ℕ → Option ℕ) (x q : ℕ) → ((i : ℕ) → 0 < get_or marks i 0 → 0 < get_or new_marks i 0)
    → 0 < get_or new_marks (mark_of x) 0 → ((y : ℕ) → new y ≡ cond (is_at (nat_cmp x) y) (Some q) (others y))
    → AreMarked marks others → AreMarked new_marks new
marked_after marks new_marks others new x q kept raised insert marked y p e = elim (cases_eq x y) [
  | inl same ↦ subst (λ (z : ℕ). 0 < get_or new_marks (mark_of z) 0) same raised
  | inr other ↦ kept (mark_of y) (marked y p (sym (insert y ∙ cond-false (is_at (nat_cmp x) y) (Some q) (others y) (is_at_other x y other)) ∙ e))
]

-- a mark that was set stays so with another one
pub raised_still : (marks : List ℕ) (m i : ℕ) → m < length marks → 0 < get_or marks i 0 → 0 < get_or (set marks m 1) i 0
raised_still marks m i lt some = elim (cases_eq m i) [
  | inl same ↦ let here : get_or (set marks m 1) m 0 ≡ 1 = get_or-set_same marks m 1 0 lt in
      subst (λ (j : ℕ). 0 < get_or (set marks m 1) j 0) same (omega arith)
  | inr other ↦ let there : get_or (set marks m 1) i 0 ≡ get_or marks i 0 = get_or-set_other marks m i 1 0 (λ e. other (sym e)) in omega arith
]

-- marks that are longer by zeros say the same
pub longer_same : (marks new : List ℕ) (n k i : ℕ) → length marks ≤ n → new ≡ take n marks ++ replicate k 0 → get_or new i 0 ≡ get_or marks i 0
longer_same marks new n k i few e =
    ap (λ (l : List ℕ). get_or l i 0) (e ∙ ap (λ (l : List ℕ). l ++ replicate k 0) (take_all n marks few)) ∙ get_or-longer marks k i
