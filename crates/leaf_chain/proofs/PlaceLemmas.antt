-- Distinct variables are no more than there are.
use Rattle.std.proofs.Common.{◌≡◌, ◌≢◌, ℕ, suc, ◌+◌, ◌<◌, ◌≤◌, ◌||◌, inl, inr, Bool, true, false, List, [], ◌∷◌, ◌++◌, length, get_or, set, eqb, sym, ◌∙◌, ap, subst, arith, length-append, length-set}
use Rattle.std.specs.List.{IsDistinct, AllByRecursion, list_any}
use Rattle.std.proofs.lemmas.Bool.{ne_eqb, eqb-true, cases_Bool, cases_lt}
use Rattle.std.proofs.lemmas.List.{get_or_append_left}
use Rattle.std.proofs.lemmas.Map.Steps.{length-le_from_distinct_below}
use Rattle.std.proofs.Math.Seq.{get_or-append_seam}
use Rattle.clause_defs.specs.Clauses.{Has}
use Rattle.chain_check.proofs.ClauseLists.{Has-snoc}
use Rattle.log_laws.proofs.TraceOfLemmas.{Has-get_or}
use Rattle.leaf_defs.specs.Evaluated.{Evaluated}
use Rattle.leaf_chain.specs.Growing.{IsWithout, HasPlaces, FitsVariables}

-- what holds at each place holds of each member
at_each : (P : ℕ → Type 0) (xs : List ℕ) → ((j : ℕ) → j < length xs → P (get_or xs j 0)) → AllByRecursion P xs
at_each P [] h = tt
at_each P (x ∷ xs) h = (h 0 (omega arith), at_each P xs (λ j lt. h (suc j) (omega arith)))

-- numbers that differ by place are distinct
distinct_places : (xs : List ℕ) → ((i j : ℕ) → i < j → j < length xs → get_or xs i 0 ≢ get_or xs j 0) → IsDistinct eqb xs
unfolding IsDistinct
distinct_places [] h = tt
distinct_places (x ∷ xs) h = (
  at_each (λ y. eqb x y ≡ false) xs (λ j lt. ne_eqb x (get_or xs j 0) (h 0 (suc j) (omega arith) (omega arith))),
  distinct_places xs (λ i j less lt. h (suc i) (suc j) (omega arith) (omega arith)),
)

-- a number that a test finds is a member
found : (q : ℕ) (xs : List ℕ) → list_any (eqb q) xs ≡ true → Has xs q
found q [] e = absurd (cc)
found q (x ∷ xs) e = elim (cases_Bool (eqb q x)) [
  | inl t ↦ inl (sym (eqb-true q x t))
  | inr f ↦ inr (found q xs (sym (ap (λ b. b || list_any (eqb q) xs) f) ∙ e))
]

-- distinct numbers from 1 on and below n are fewer than n
pub fewer : (xs : List ℕ) (n : ℕ) → 1 ≤ n → ((i j : ℕ) → i < j → j < length xs → get_or xs i 0 ≢ get_or xs j 0)
    → ((v : ℕ) → Has xs v → (1 ≤ v) × (v < n)) → length xs < n
unfolding IsDistinct
fewer xs n some distinct within =
    let all : length (0 ∷ xs) ≤ n =
    length-le_from_distinct_below (0 ∷ xs) n (
      at_each (λ y. eqb 0 y ≡ false) xs (λ j lt. ne_eqb 0 (get_or xs j 0) (λ same. (let low = (within (get_or xs j 0) (Has-get_or xs j 0 lt)).0 in omega arith))),
      distinct_places xs distinct,
    )
    (λ q e. below q (found q (0 ∷ xs) e)) in
    omega arith
  where
    below : (q : ℕ) → Has (0 ∷ xs) q → q < n
    below q h = elim h [ inl zero_is ↦ omega arith | inr here ↦ (within q here).1 ]

-- ---- one more

-- the earlier numbers stay
before : (xs : List ℕ) (x i : ℕ) → i < length xs → get_or (xs ++ x ∷ []) i 0 ≡ get_or xs i 0
before xs x i lt = get_or_append_left xs (x ∷ []) 0 i lt

-- the new one stands behind them
last : (xs : List ℕ) (x i : ℕ) → i ≡ length xs → get_or (xs ++ x ∷ []) i 0 ≡ x
last xs x i e = ap (λ n. get_or (xs ++ x ∷ []) n 0) e ∙ get_or-append_seam xs x [] 0

-- a new number is distinct from the others
pub distinct_more : (xs : List ℕ) (v : ℕ) → ((i j : ℕ) → i < j → j < length xs → get_or xs i 0 ≢ get_or xs j 0) → (Has xs v → ⊥)
    → (i j : ℕ) → i < j → j < length (xs ++ v ∷ []) → get_or (xs ++ v ∷ []) i 0 ≢ get_or (xs ++ v ∷ []) j 0
distinct_more xs v distinct fresh i j less lt same =
    let longer = length-append xs (v ∷ []) in
    let first : i < length xs = omega arith in
    elim (cases_lt j (length xs)) [
      | inl below ↦ distinct i j less below (sym (before xs v i first) ∙ same ∙ before xs v j below)
      | inr past ↦
          let here : get_or xs i 0 ≡ v = sym (before xs v i first) ∙ same ∙ last xs v j (omega arith) in
          fresh (subst (Has xs) here (Has-get_or xs i 0 first))
    ]

-- the numbers with a new one are within the same bounds
pub within_more : (xs : List ℕ) (v n : ℕ) → ((u : ℕ) → Has xs u → (1 ≤ u) × (u < n)) → 1 ≤ v → v < n
    → (u : ℕ) → Has (xs ++ v ∷ []) u → (1 ≤ u) × (u < n)
within_more xs v n within low high u h = elim ((Has-snoc xs v u).0 h) [
  | inl old ↦ within u old
  | inr same ↦ (omega arith, omega arith)
]

-- there is room for the variables
pub fits_variables : (e : Evaluated) (a b : ℕ) → HasPlaces e a b → FitsVariables e
fits_variables e a b h = record {
  few = fewer e.order (length e.values) h.some h.distinct h.within;
  small = h.few;
}

-- and for one more
pub room_for_one : (e : Evaluated) (a b v : ℕ) → HasPlaces e a b → IsWithout e v → length e.order + 1 < length e.values
room_for_one e a b v h without =
    let all = fewer (e.order ++ v ∷ []) (length e.values) h.some (distinct_more e.order v h.distinct without.fresh)
    (within_more e.order v (length e.values) h.within without.low without.high) in
    omega (arith, length-append e.order (v ∷ []))

-- an evaluation with one more value has its places
pub places_more : (e : Evaluated) (a b v chosen reason : ℕ) (value : Bool) → HasPlaces e a b → IsWithout e v → chosen ≤ length e.order + 1
    → HasPlaces (record { values = set e.values v value; order = e.order ++ v ∷ []; chosen = chosen; reasons = e.reasons ++ reason ∷ [] }) a b
places_more e a b v chosen reason value h without first =
    let many = length-set e.values v value in
    let longer = length-append e.order (v ∷ []) in
    record {
      some = let some = h.some in omega arith;
      few = let few = h.few in omega arith;
      within = within_more e.order v (length (set e.values v value))
          (λ u here. let range = h.within u here in (range.0, let high = range.1 in omega arith)) without.low
          (let high = without.high in omega arith);
      distinct = distinct_more e.order v h.distinct without.fresh;
      as_many = let same = h.as_many in omega (arith, length-append e.reasons (reason ∷ []));
      chosen_first = omega arith;
      order_room_is = let room = h.order_room_is in omega arith;
      reason_room_is = let room = h.reason_room_is in omega arith;
    }
