-- Indices that move into other groups, or into the map.
use Rattle.std.proofs.Common.{◌⊎◌, ◌≡◌, ℕ, ◌+◌, ◌<◌, ◌==◌, if◌then◌else◌, inl, inr, List, length, get_or, Option, Some, refl, sym, ◌∙◌, subst, arith}
use Rattle.std.proofs.lemmas.Bool.{cases_lt, cases_eq, cond-true, cond-false, eq-eqb, ne_eqb}
use Rattle.std.proofs.lemmas.List.{get_or_past}
use Rattle.clause_defs.specs.Traces.{place_of}
use Rattle.trace_places.specs.Groups.{AreWithin, NoSlots}
use Rattle.trace_places.specs.Places.{MapsRight, HasAll, AreKept, AreAllKept, IsMoved}

-- slots with one more place
pub within_after : (indices numbers new_numbers : List ℕ) (q : ℕ) → q < length indices → AreWithin indices numbers
    → ((s p : ℕ) → get_or new_numbers s 0 ≡ p + 1 → (get_or numbers s 0 ≡ p + 1) ⊎ (p ≡ q))
    → AreWithin indices new_numbers
within_after indices numbers new_numbers q lt within only s p e = elim (only s p e) [
  | inl old ↦ within s p old
  | inr new ↦ omega arith
]

-- a map with one more index
pub maps_right_after : (indices : List ℕ) (others new : ℕ → Option ℕ) (x q : ℕ) → place_of indices x ≡ Some q → MapsRight indices others
    → ((y : ℕ) → new y ≡ (if x == y then Some q else others y)) → MapsRight indices new
maps_right_after indices others new x q here mapped insert y p e = elim (cases_eq x y) [
  | inl same ↦ subst (λ z. new z ≡ Some p → place_of indices z ≡ Some p) same
      (λ own. here ∙ (sym (insert x ∙ cond-true (x == x) (Some q) (others x) (eq-eqb x x refl)) ∙ own)) e
  | inr other ↦ mapped y p (sym (insert y ∙ cond-false (x == y) (Some q) (others y) (ne_eqb x y other)) ∙ e)
]

-- an index that is put into the map at its right place takes no other index out
pub has_all_after : (indices : List ℕ) (others new : ℕ → Option ℕ) (x q : ℕ) → place_of indices x ≡ Some q → MapsRight indices others
    → ((y : ℕ) → new y ≡ (if x == y then Some q else others y)) → HasAll others new
has_all_after indices others new x q here mapped insert y p e = elim (cases_eq x y) [
  | inl same ↦ subst (λ z. others z ≡ Some p → new z ≡ Some p) same
      (λ own. insert x ∙ cond-true (x == x) (Some q) (others x) (eq-eqb x x refl) ∙ (sym here ∙ mapped x p own)) e
  | inr other ↦ insert y ∙ cond-false (x == y) (Some q) (others y) (ne_eqb x y other) ∙ e
]

-- the map has what was put into it
pub has_after : (others new : ℕ → Option ℕ) (x q : ℕ) → ((y : ℕ) → new y ≡ (if x == y then Some q else others y)) → new x ≡ Some q
has_after others new x q insert = insert x ∙ cond-true (x == x) (Some q) (others x) (eq-eqb x x refl)

-- ---- all slots

-- a slot that was moved earlier
pub moved_still : (indices numbers : List ℕ) (count : ℕ) (old_tags old_numbers : List ℕ) (others : ℕ → Option ℕ) (new_count : ℕ) (new_tags new_numbers : List ℕ) (new_others : ℕ → Option ℕ) (s : ℕ)
    → AreKept count old_tags old_numbers new_count new_tags new_numbers others → HasAll others new_others
    → IsMoved indices numbers count old_tags old_numbers others s → IsMoved indices numbers new_count new_tags new_numbers new_others s
moved_still indices numbers count old_tags old_numbers others new_count new_tags new_numbers new_others s kept all moved p e = elim (moved p e) [
  | inl stands ↦ elim (kept (get_or indices p 0) p stands) [
    | inl on ↦ inl on
    | inr other ↦ inr (all (get_or indices p 0) p other)
  ]
  | inr other ↦ inr (all (get_or indices p 0) p other)
]

-- where all slots were moved, all indices are kept
pub all_moved : (indices : List ℕ) (count : ℕ) (tags numbers : List ℕ) (new_count : ℕ) (new_tags new_numbers : List ℕ) (others : ℕ → Option ℕ) (n : ℕ) → n ≡ length numbers
    → ((s : ℕ) → s < n → IsMoved indices numbers new_count new_tags new_numbers others s)
    → AreAllKept indices count tags numbers new_count new_tags new_numbers others
all_moved indices count tags numbers new_count new_tags new_numbers others n e moved k stands = elim (cases_lt stands.slot (length numbers)) [
  | inl within ↦ moved stands.slot (omega arith) k stands.number
  | inr past ↦ let none = get_or_past numbers stands.slot 0 past in let some = stands.number in absurd (omega arith)
]

-- empty slots have no place
pub within_empty : (indices numbers : List ℕ) → NoSlots numbers → AreWithin indices numbers
within_empty indices numbers none s p e = let zero = none s in absurd (omega arith)
