-- The same values in both orders.
use Rattle.std.proofs.Common.{◌≡◌, ℕ, zero, suc, ◌<◌, ◌≤◌, ⊎_elim, List, [], ◌∷◌, ◌++◌, length, map, get_or, All, Some, slice_get, refl, ap, sym, subst, ◌∙◌, arith}
use Rattle.std.proofs.lemmas.Bool.{cases_eq, cases_order}
use Rattle.std.proofs.lemmas.List.{get_or_append_left, get_or_default, get_or_push, length_push}
use Rattle.std.proofs.lemmas.List.Elements.{All-head, All-tail}
use Rattle.std.proofs.lemmas.Option.{slice_get-get_or}
use Rattle.net_defs.specs.Interfaces.{StandAt, IsRearrangement}
use Rattle.net_defs.specs.Alignments.{IsReordered}
use Rattle.net_laws.proofs.PlaceLemmas.{StandAt-unique, StandAt-complete}

-- what stands at places within a list
StandAt-map : (list places : List ℕ) → All (λ k. k < length list) places → StandAt list places (map (λ k. get_or list k 0) places)
StandAt-map list [] within = tt
StandAt-map list (k ∷ ks) within =
    (slice_get-get_or list k 0 (All-head (λ k. k < length list) k ks within), StandAt-map list ks (All-tail (λ k. k < length list) k ks within))

-- what is found at each place in turn stands at the places
StandAt-from_places : (list places found : List ℕ) → length found ≡ length places
    → ((i : ℕ) → i < length places → slice_get list (get_or places i 0) ≡ Some (get_or found i 0)) → StandAt list places found
StandAt-from_places list [] [] size each = tt
StandAt-from_places list [] (x ∷ found) size each = absurd (omega arith)
StandAt-from_places list (k ∷ ks) [] size each = absurd (omega arith)
StandAt-from_places list (k ∷ ks) (x ∷ found) size each =
    (each zero (omega arith), StandAt-from_places list ks found (omega arith) (λ i lt. each (suc i) (omega arith)))

-- the first m values of a list have the places that they stand at in another order
record Puts (places x : List ℕ) (m : ℕ) (u : List ℕ) : Type 0 where
  as_many : length u ≡ m
  each : (i : ℕ) → i < length places → get_or places i 0 < m → get_or u (get_or places i 0) 0 ≡ get_or x i 0

-- a rearrangement has each place once
same_index : (places : List ℕ) (i j : ℕ) → IsRearrangement (length places) places → i < length places → j < length places
    → get_or places i 0 ≡ get_or places j 0 → i ≡ j
same_index places i j r i_lt j_lt e =
    ⊎_elim (λ same. same)
    (λ apart. ⊎_elim (λ below. absurd (r.distinct i j below j_lt e)) (λ above. absurd (r.distinct j i above i_lt (sym e))) apart)
    (cases_order i j)

-- there is such a list for each m
puts : (places x : List ℕ) → IsRearrangement (length places) places → (m : ℕ) → m ≤ length places → (u : List ℕ) × Puts places x m u
puts places x r zero le = ([], record { as_many = refl; each = λ i lt none. absurd (omega arith) })
puts places x r (suc m) le =
    let before = puts places x r m (omega arith) in
    let u : List ℕ = before.0 in
    let c = r.complete m (omega arith) in
    let j : ℕ = c.0 in
    let at : get_or places j 0 ≡ m = get_or_default places j 0 m c.1 ∙ c.2 in
    let value : ℕ = get_or x j 0 in (
      u ++ value ∷ [],
      record {
        as_many = omega (arith, length_push u value, before.1.as_many);
        each = λ i lt below. ⊎_elim
            (λ last. get_or_push u value 0 (get_or places i 0) (before.1.as_many ∙ sym last)
            ∙ ap (λ k. get_or x k 0) (same_index places j i r c.1 lt (at ∙ sym last)))
            (λ other. get_or_append_left u (value ∷ []) 0 (get_or places i 0) (omega (arith, before.1.as_many))
            ∙ before.1.each i lt (omega arith))
            (cases_eq (get_or places i 0) m);
      },
    )

-- each list in the specification's order is one in the design's
pub design_order_exists : (places x : List ℕ) → IsRearrangement (length places) places → length x ≡ length places → (u : List ℕ) × IsReordered places u x
design_order_exists places x r size =
    let made = puts places x r (length places) (omega arith) in
    let u : List ℕ = made.0 in (
      u,
      record {
        as_many = made.1.as_many;
        stand = StandAt-from_places u places x size
            (λ i lt. let inside = r.within i 0 lt in
            slice_get-get_or u (get_or places i 0) 0 (omega (arith, made.1.as_many)) ∙ ap Some (made.1.each i lt inside));
      },
    )

-- and each list in the design's order is one in the specification's
pub spec_order_exists : (places u : List ℕ) → IsRearrangement (length places) places → length u ≡ length places → (x : List ℕ) × IsReordered places u x
spec_order_exists places u r size =
    let P : ℕ → Type 0 = λ n. All (λ k. k < n) places in
    (map (λ k. get_or u k 0) places, record { as_many = size; stand = StandAt-map u places (subst P (sym size) r.within) })

-- one list in the design's order gives this one
pub design_order_is_unique : (places x u v : List ℕ) → IsRearrangement (length places) places → IsReordered places u x → IsReordered places v x → u ≡ v
design_order_is_unique places x u v r h k = StandAt-complete (length places) places u v x r h.as_many k.as_many h.stand k.stand

-- and one in the specification's order is given
pub spec_order_is_unique : (places u x y : List ℕ) → IsReordered places u x → IsReordered places u y → x ≡ y
spec_order_is_unique places u x y h k = StandAt-unique u places x y h.stand k.stand
