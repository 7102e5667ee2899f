-- What is found, and one more index.
use Rattle.std.proofs.Common.{◌⊎◌, ◌≡◌, ℕ, zero, suc, ◌+◌, ◌-◌, ◌<◌, ◌==◌, if◌then◌else◌, inl, inr, List, [], ◌∷◌, ◌++◌, length, get_or, Option, Some, None, refl, sym, ap, ◌∙◌, subst, arith, length-append}
use Rattle.std.proofs.lemmas.Bool.{cases_lt, cases_eq, ne_eqb, eq-eqb, cond-true, cond-false}
use Rattle.std.proofs.lemmas.List.{get_or_append_left}
use Rattle.std.proofs.Math.Seq.{get_or-append_seam}
use Rattle.clause_defs.specs.Traces.{place_of, place_from}
use Rattle.trace_places.specs.Groups.{AreSlots, AreWithin, StandsInSlot}
use Rattle.trace_places.specs.Places.{AreDistinct, MapsRight, HasAll, IsKnown, ArePlaces, AreAllKept}
use Rattle.trace_places.proofs.PlaceLemmas.{place_of-push_same, place_of-push_other}

-- ---- what is found

-- an entry of the table that isn't 0 is one more than a place
pub entry_of : (n t : ℕ) → t ≡ n → (n ≡ 0 → ⊥) → n ≡ t - 1 + 1
entry_of zero t e some = absurd (some refl)
entry_of (suc n) t e some = omega arith

-- an index that stands nowhere has no place
place_from-absent : (k : ℕ) (xs : List ℕ) (x : ℕ) → ((j : ℕ) → j < length xs → get_or xs j 0 ≡ x → ⊥) → place_from k xs x ≡ None
place_from-absent k [] x absent = refl
place_from-absent k (y ∷ ys) x absent =
    rw (ne_eqb y x (absent 0 (omega arith))) (place_from-absent (k + 1) ys x (λ j lt e. absent (suc j) (omega arith) e))

-- an index that none of the three has has no place
pub known_nowhere : (indices table : List ℕ) (count : ℕ) (tags numbers : List ℕ) (others : ℕ → Option ℕ) (x : ℕ) → ArePlaces indices table count tags numbers others
    → get_or table x 0 ≡ 0 → ((k : ℕ) → get_or indices k 0 ≡ x → StandsInSlot count tags numbers x k → ⊥) → others x ≡ None → place_of indices x ≡ None
known_nowhere indices table count tags numbers others x h no_entry no_slot no_other = place_from-absent 0 indices x (λ j lt e. elim (h.each j lt) [
  | inl entry ↦ (let here = ap (λ (y : ℕ). get_or table y 0) e in absurd (omega arith))
  | inr (inl on) ↦ no_slot j e (subst (λ (y : ℕ). StandsInSlot count tags numbers y j) e on)
  | inr (inr other) ↦ (let here = ap others e in absurd (cc))
])

-- of an index that the table and the slots don't know, the map says the place
said_by_map : (indices table : List ℕ) (count : ℕ) (tags numbers : List ℕ) (others : ℕ → Option ℕ) (x : ℕ) (o : Option ℕ) → ArePlaces indices table count tags numbers others
    → get_or table x 0 ≡ 0 → ((k : ℕ) → get_or indices k 0 ≡ x → StandsInSlot count tags numbers x k → ⊥) → others x ≡ o → o ≡ place_of indices x
said_by_map indices table count tags numbers others x None h no_entry no_slot e = sym (known_nowhere indices table count tags numbers others x h no_entry no_slot e)
said_by_map indices table count tags numbers others x (Some p) h no_entry no_slot e = sym (h.mapped x p e)

-- an index that neither the table nor its group has stands where the map says
pub known_in_map : (indices table : List ℕ) (count : ℕ) (tags numbers : List ℕ) (others : ℕ → Option ℕ) (x : ℕ) → ArePlaces indices table count tags numbers others
    → get_or table x 0 ≡ 0 → ((k : ℕ) → get_or indices k 0 ≡ x → StandsInSlot count tags numbers x k → ⊥) → others x ≡ place_of indices x
known_in_map indices table count tags numbers others x h no_entry no_slot =
    said_by_map indices table count tags numbers others x (others x) h no_entry no_slot refl

-- ---- one more index

-- what was found is found still
still : (indices : List ℕ) (x y p : ℕ) → place_of indices x ≡ None → place_of indices y ≡ Some p → place_of (indices ++ x ∷ []) y ≡ Some p
still indices x y p none e = place_of-push_other indices x y (λ same. let here = ap (place_of indices) same in absurd (cc)) ∙ e

-- indices that each have their own place keep it with a new one behind them
distinct-push : (indices : List ℕ) (x : ℕ) → place_of indices x ≡ None
    → AreDistinct indices → AreDistinct (indices ++ x ∷ [])
distinct-push indices x none distinct k lt = elim (cases_lt k (length indices)) [
  | inl before ↦ subst (λ (z : ℕ). place_of (indices ++ x ∷ []) z ≡ Some k) (sym (get_or_append_left indices (x ∷ []) 0 k before))
      (still indices x (get_or indices k 0) k none (distinct k before))
  | inr last ↦
      let at : length indices ≡ k = omega (arith, length-append indices (x ∷ [])) in
      subst (λ (j : ℕ). place_of (indices ++ x ∷ []) (get_or (indices ++ x ∷ []) j 0) ≡ Some j) at
      (subst (λ (z : ℕ). place_of (indices ++ x ∷ []) z ≡ Some (length indices)) (sym (get_or-append_seam indices x [] 0)) (place_of-push_same indices x none))
]

-- what changes of the three with one more index x: only what they have of x
pub record Adds (indices table new_table : List ℕ) (count : ℕ) (tags numbers new_tags new_numbers : List ℕ) (others new_others : ℕ → Option ℕ) (x : ℕ) : Type 0 where
  pub are_slots : AreSlots count new_tags new_numbers
  pub tabled : (y : ℕ) → (x ≡ y → ⊥) → get_or new_table y 0 ≡ get_or table y 0
  pub tabled_here : (p : ℕ) → get_or new_table x 0 ≡ p + 1 → p ≡ length indices
  pub within : (s p : ℕ) → get_or new_numbers s 0 ≡ p + 1 → (get_or numbers s 0 ≡ p + 1) ⊎ (p ≡ length indices)
  pub stands : (y p : ℕ) → StandsInSlot count tags numbers y p → StandsInSlot count new_tags new_numbers y p
  pub mapped : (y : ℕ) → (x ≡ y → ⊥) → new_others y ≡ others y
  pub mapped_here : (p : ℕ) → new_others x ≡ Some p → p ≡ length indices
  pub known : IsKnown (indices ++ x ∷ []) new_table count new_tags new_numbers new_others (length indices)

-- an index that the table, the slots or the map knew is known with a new one added
known_still : (indices table new_table : List ℕ) (count : ℕ) (tags numbers new_tags new_numbers : List ℕ) (others new_others : ℕ → Option ℕ) (x k : ℕ) → (x ≡ get_or indices k 0 → ⊥)
    → Adds indices table new_table count tags numbers new_tags new_numbers others new_others x → k < length indices
    → IsKnown indices table count tags numbers others k → IsKnown (indices ++ x ∷ []) new_table count new_tags new_numbers new_others k
known_still indices table new_table count tags numbers new_tags new_numbers others new_others x k other adds lt h =
    let same = get_or_append_left indices (x ∷ []) 0 k lt in
    elim h [
      | inl entry ↦ inl (ap (λ (y : ℕ). get_or new_table y 0) same ∙ adds.tabled (get_or indices k 0) other ∙ entry)
      | inr (inl on) ↦ inr (inl (subst (λ (y : ℕ). StandsInSlot count new_tags new_numbers y k) (sym same) (adds.stands (get_or indices k 0) k on)))
      | inr (inr place) ↦ inr (inr (ap new_others same ∙ adds.mapped (get_or indices k 0) other ∙ place))
    ]

-- what has a place that is the new index's own
at_end : (indices : List ℕ) (x y p : ℕ) → place_of indices x ≡ None → x ≡ y → p ≡ length indices → place_of (indices ++ x ∷ []) y ≡ Some p
at_end indices x y p none same here =
    subst (λ (z : ℕ). place_of (indices ++ x ∷ []) z ≡ Some p) same
    (place_of-push_same indices x none ∙ ap (λ (n : ℕ). Some n) (sym here))

-- what the table, the slots and the map say stays right with a new index added to one of them
pub ArePlaces-more : (indices table new_table : List ℕ) (count : ℕ) (tags numbers new_tags new_numbers : List ℕ) (others new_others : ℕ → Option ℕ) (x : ℕ)
    → place_of indices x ≡ None → ArePlaces indices table count tags numbers others
    → Adds indices table new_table count tags numbers new_tags new_numbers others new_others x
    → ArePlaces (indices ++ x ∷ []) new_table count new_tags new_numbers new_others
ArePlaces-more indices table new_table count tags numbers new_tags new_numbers others new_others x none h adds = record {
  are_slots = adds.are_slots;
  distinct = distinct-push indices x none h.distinct;
  tabled = λ y p e. elim (cases_eq x y) [
    | inl same ↦ at_end indices x y p none same (adds.tabled_here p (ap (λ (z : ℕ). get_or new_table z 0) same ∙ e))
    | inr other ↦ still indices x y p none (h.tabled y p (sym (adds.tabled y other) ∙ e))
  ];
  within = λ s p e. elim (adds.within s p e) [
    | inl old ↦ let before = h.within s p old in omega (arith, length-append indices (x ∷ []))
    | inr last ↦ omega (arith, length-append indices (x ∷ []))
  ];
  mapped = λ y p e. elim (cases_eq x y) [
    | inl same ↦ at_end indices x y p none same (adds.mapped_here p (ap new_others same ∙ e))
    | inr other ↦ still indices x y p none (h.mapped y p (sym (adds.mapped y other) ∙ e))
  ];
  each = λ k lt. elim (cases_lt k (length indices)) [
    | inl before ↦ known_still indices table new_table count tags numbers new_tags new_numbers others new_others x k
        (λ same. let here = h.distinct k before in let there = ap (place_of indices) same in absurd (cc)) adds before (h.each k before)
    | inr last ↦
        let at : length indices ≡ k = omega (arith, length-append indices (x ∷ [])) in
        subst (λ (j : ℕ). IsKnown (indices ++ x ∷ []) new_table count new_tags new_numbers new_others j) at adds.known
  ];
}

-- the table has no entry for a new index
no_entry : (indices table : List ℕ) (count : ℕ) (tags numbers : List ℕ) (others : ℕ → Option ℕ) (x p : ℕ) → place_of indices x ≡ None
    → ArePlaces indices table count tags numbers others → get_or table x 0 ≡ p + 1 → p ≡ length indices
no_entry indices table count tags numbers others x p none h e = let found = h.tabled x p e in absurd (cc)

-- the map has no place for a new index
no_other : (indices table : List ℕ) (count : ℕ) (tags numbers : List ℕ) (others : ℕ → Option ℕ) (x p : ℕ) → place_of indices x ≡ None
    → ArePlaces indices table count tags numbers others → others x ≡ Some p → p ≡ length indices
no_other indices table count tags numbers others x p none h e = let found = h.mapped x p e in absurd (cc)

-- in the table
pub ArePlaces-put : (indices table new : List ℕ) (count : ℕ) (tags numbers : List ℕ) (others : ℕ → Option ℕ) (x : ℕ) → place_of indices x ≡ None
    → ((y : ℕ) → get_or new y 0 ≡ (if x == y then (length indices + 1) else get_or table y 0))
    → ArePlaces indices table count tags numbers others → ArePlaces (indices ++ x ∷ []) new count tags numbers others
ArePlaces-put indices table new count tags numbers others x none put h =
    let here : get_or new x 0 ≡ length indices + 1 = put x ∙ cond-true (x == x) (length indices + 1) (get_or table x 0) (eq-eqb x x refl) in
    ArePlaces-more indices table new count tags numbers tags numbers others others x none h
    (record {
      are_slots = h.are_slots;
      tabled = λ y other. put y ∙ cond-false (x == y) (length indices + 1) (get_or table y 0) (ne_eqb x y other);
      tabled_here = λ p e. omega arith;
      within = λ s p e. inl e;
      stands = λ y p stands. stands;
      mapped = λ y other. refl;
      mapped_here = λ p e. no_other indices table count tags numbers others x p none h e;
      known = inl (ap (λ (y : ℕ). get_or new y 0) (get_or-append_seam indices x [] 0) ∙ here);
    })

-- in its group
added : (indices table : List ℕ) (count : ℕ) (tags numbers new_tags new_numbers : List ℕ) (others : ℕ → Option ℕ) (x : ℕ) → place_of indices x ≡ None
    → ((s p : ℕ) → get_or new_numbers s 0 ≡ p + 1 → (get_or numbers s 0 ≡ p + 1) ⊎ (p ≡ length indices))
    → ArePlaces indices table count tags numbers others
    → AreSlots count new_tags new_numbers
    → ((y p : ℕ) → StandsInSlot count tags numbers y p → StandsInSlot count new_tags new_numbers y p)
    → StandsInSlot count new_tags new_numbers x (length indices)
    → ArePlaces (indices ++ x ∷ []) table count new_tags new_numbers others
added indices table count tags numbers new_tags new_numbers others x none within h are_slots stands here =
    ArePlaces-more indices table table count tags numbers new_tags new_numbers others others x none h
    (record {
      are_slots = are_slots;
      tabled = λ y other. refl;
      tabled_here = λ p e. no_entry indices table count tags numbers others x p none h e;
      within = within;
      stands = stands;
      mapped = λ y other. refl;
      mapped_here = λ p e. no_other indices table count tags numbers others x p none h e;
      known = inr (inl (subst (λ (y : ℕ). StandsInSlot count new_tags new_numbers y (length indices)) (sym (get_or-append_seam indices x [] 0)) here));
    })

-- the same, for a number of groups and a place that are those
pub ArePlaces-add : (indices table : List ℕ) (count : ℕ) (tags numbers : List ℕ) (new_count : ℕ) (new_tags new_numbers : List ℕ) (others : ℕ → Option ℕ) (x place : ℕ) → place_of indices x ≡ None
    → place ≡ length indices → new_count ≡ count → AreSlots new_count new_tags new_numbers
    → ((y p : ℕ) → StandsInSlot count tags numbers y p → StandsInSlot new_count new_tags new_numbers y p)
    → ((s p : ℕ) → get_or new_numbers s 0 ≡ p + 1 → (get_or numbers s 0 ≡ p + 1) ⊎ (p ≡ place))
    → StandsInSlot new_count new_tags new_numbers x place
    → ArePlaces indices table count tags numbers others → ArePlaces (indices ++ x ∷ []) table new_count new_tags new_numbers others
ArePlaces-add indices table count tags numbers new_count new_tags new_numbers others x place none at same are_slots stands within here h =
    subst (λ n. AreSlots n new_tags new_numbers
    → ((y p : ℕ) → StandsInSlot count tags numbers y p → StandsInSlot n new_tags new_numbers y p)
    → StandsInSlot n new_tags new_numbers x (length indices)
    → ArePlaces (indices ++ x ∷ []) table n new_tags new_numbers others) (sym same)
    (added indices table count tags numbers new_tags new_numbers others x none
    (subst (λ q. (s p : ℕ) → get_or new_numbers s 0 ≡ p + 1 → (get_or numbers s 0 ≡ p + 1) ⊎ (p ≡ q)) at within) h)
    are_slots stands (subst (λ q. StandsInSlot new_count new_tags new_numbers x q) at here)

-- in the map
pub ArePlaces-insert : (indices table : List ℕ) (count : ℕ) (tags numbers : List ℕ) (others new : ℕ → Option ℕ) (x : ℕ) → place_of indices x ≡ None
    → ((y : ℕ) → new y ≡ (if x == y then Some (length indices) else others y))
    → ArePlaces indices table count tags numbers others → ArePlaces (indices ++ x ∷ []) table count tags numbers new
ArePlaces-insert indices table count tags numbers others new x none insert h =
    let here : new x ≡ Some (length indices) = insert x ∙ cond-true (x == x) (Some (length indices)) (others x) (eq-eqb x x refl) in
    ArePlaces-more indices table table count tags numbers tags numbers others new x none h
    (record {
      are_slots = h.are_slots;
      tabled = λ y other. refl;
      tabled_here = λ p e. no_entry indices table count tags numbers others x p none h e;
      within = λ s p e. inl e;
      stands = λ y p stands. stands;
      mapped = λ y other. insert y ∙ cond-false (x == y) (Some (length indices)) (others y) (ne_eqb x y other);
      mapped_here = λ p e. cc;
      known = inr (inr (ap new (get_or-append_seam indices x [] 0) ∙ here));
    })

-- a table that says the same
pub ArePlaces-same_table : (indices table new : List ℕ) (count : ℕ) (tags numbers : List ℕ) (others : ℕ → Option ℕ) → ((x : ℕ) → get_or new x 0 ≡ get_or table x 0)
    → ArePlaces indices table count tags numbers others → ArePlaces indices new count tags numbers others
ArePlaces-same_table indices table new count tags numbers others same h = record {
  are_slots = h.are_slots;
  distinct = h.distinct;
  tabled = λ x p e. h.tabled x p (sym (same x) ∙ e);
  within = h.within;
  mapped = h.mapped;
  each = λ k lt. elim (h.each k lt) [ inl entry ↦ inl (same (get_or indices k 0) ∙ entry) | inr rest ↦ inr rest ];
}

-- other groups and another map that have the same places
pub ArePlaces-regrouped : (indices table : List ℕ) (count : ℕ) (tags numbers : List ℕ) (others : ℕ → Option ℕ) (new_count : ℕ) (new_tags new_numbers : List ℕ) (new_others : ℕ → Option ℕ)
    → AreSlots new_count new_tags new_numbers → AreWithin indices new_numbers → MapsRight indices new_others → HasAll others new_others
    → AreAllKept indices count tags numbers new_count new_tags new_numbers new_others
    → ArePlaces indices table count tags numbers others → ArePlaces indices table new_count new_tags new_numbers new_others
ArePlaces-regrouped indices table count tags numbers others new_count new_tags new_numbers new_others are_slots within mapped all kept h = record {
  are_slots = are_slots;
  distinct = h.distinct;
  tabled = h.tabled;
  within = within;
  mapped = mapped;
  each = λ k lt. elim (h.each k lt) [
    | inl entry ↦ inl entry
    | inr (inl on) ↦ inr (kept k on)
    | inr (inr other) ↦ inr (inr (all (get_or indices k 0) k other))
  ];
}

-- the same where the facts are of a list that was lent
pub ArePlaces-made_room : (indices lent table : List ℕ) (count : ℕ) (tags numbers : List ℕ) (others : ℕ → Option ℕ) (new_count : ℕ) (new_tags new_numbers : List ℕ) (new_others : ℕ → Option ℕ)
    → lent ≡ indices
    → AreSlots new_count new_tags new_numbers → AreWithin lent new_numbers → MapsRight lent new_others → HasAll others new_others
    → AreAllKept lent count tags numbers new_count new_tags new_numbers new_others
    → ArePlaces indices table count tags numbers others → ArePlaces indices table new_count new_tags new_numbers new_others
ArePlaces-made_room indices lent table count tags numbers others new_count new_tags new_numbers new_others same are_slots within mapped all kept h =
    ArePlaces-regrouped indices table count tags numbers others new_count new_tags new_numbers new_others are_slots
    (subst (λ (is : List ℕ). AreWithin is new_numbers) same within)
    (subst (λ (is : List ℕ). MapsRight is new_others) same mapped)
    all
    (subst (λ (is : List ℕ). AreAllKept is count tags numbers new_count new_tags new_numbers new_others) same kept)
    h
