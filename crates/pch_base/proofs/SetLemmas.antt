-- Lists of literals as sets, and their order.
use Rattle.std.proofs.Common.{◌≡◌, ℕ, zero, suc, ◌+◌, ◌<◌, ◌≤◌, ◌⊎◌, ◌↔◌, inl, inr, Bool, true, false, nat_eq, cond, List, [], ◌∷◌, ◌++◌, length, get_or, take, refl, ap, subst, arith, eqb-true, ◌||◌}
use Rattle.std.proofs.lemmas.Bool.{eqb-false}
use Rattle.std.specs.List.{Contains, dedup, dedup_from, list_any}
use Rattle.std.specs.List.Sorted.{IsPermutation, IsNonDecreasingBy}
use Rattle.std.proofs.lemmas.List.{take_more}
use Rattle.std.proofs.lemmas.List.Sorted.{Contains-permutation, IsPermutation-sym}
use Rattle.clause_defs.specs.Literals.{Literal, code}
use Rattle.clause_defs.specs.Clauses.{Lits, Has, SameSet, IsOrdered}
use Rattle.pch_base.specs.LitCodes.{code_injective}

-- x stands at some place
pub Has-Contains : {X : Type 0} (xs : List X) (x : X) → Has xs x → Contains xs x
Has-Contains [] x h = absurd h
Has-Contains (y ∷ ys) x (inl e) = (0, omega arith, e)
Has-Contains (y ∷ ys) x (inr h) = let rest = Has-Contains ys x h in (suc rest.0, omega (arith, rest.1), rest.2)

-- what std counts as contained is one of the list
pub Contains-Has : {X : Type 0} (xs : List X) (x : X) → Contains xs x → Has xs x
Contains-Has [] x h = absurd (omega (arith, h.1))
Contains-Has (y ∷ ys) x (zero, lt, e) = inl e
Contains-Has (y ∷ ys) x (suc k, lt, e) = inr (Contains-Has ys x (k, omega arith, e))

-- the elements of two lists together are those of each
pub Has-append : {X : Type 0} (xs ys : List X) (x : X) → Has (xs ++ ys) x ↔ (Has xs x ⊎ Has ys x)
Has-append [] ys x = (λ h. inr h, λ h. elim h [ inl none ↦ absurd none | inr k ↦ k ])
Has-append (z ∷ zs) ys x = grind (arith, Has-append zs ys x)

-- the first i + 1 elements have one more
pub Has-take_next : {X : Type 0} (xs : List X) (i : ℕ) (d x : X) → i < length xs → Has (take (i + 1) xs) x → Has (take i xs) x ⊎ (get_or xs i d ≡ x)
Has-take_next xs i d x lt h =
    elim ((Has-append (take i xs) (get_or xs i d ∷ []) x).0 (subst (λ ys. Has ys x) (take_more xs i d lt) h)) [
      | inl k ↦ inl k
      | inr (inl e) ↦ inr e
      | inr (inr none) ↦ absurd none
    ]

-- clauses that are the same set as a third are the same set
pub SameSet-trans : (c d e : Lits) → SameSet c d → SameSet d e → SameSet c e
SameSet-trans c d e h k l = (λ x. (k l).0 ((h l).0 x), λ x. (h l).1 ((k l).1 x))

-- literals in another order are the same clause
pub SameSet-permutation : (c d : Lits) → IsPermutation c d → SameSet d c
SameSet-permutation c d p l = (
  λ h. Contains-Has c l (Contains-permutation d c l (IsPermutation-sym c d p) (Has-Contains d l h)),
  λ h. Contains-Has d l (Contains-permutation c d l p (Has-Contains c l h)),
)

-- no literal comes after one with a greater code
abbrev Climbs : Lits → Type 0
Climbs [] = Unit {0}
Climbs (l ∷ ls) = ((m : Literal) → Has ls m → code l ≤ code m) × Climbs ls

-- literals sorted by their codes climb from each one to the next
pub climbs_from_sorted : (c : Lits) → IsNonDecreasingBy code c → Climbs c
climbs_from_sorted [] h = tt
climbs_from_sorted (l ∷ ls) h = (
  λ m i. let at = Has-Contains ls m i in
      let e : code (get_or ls at.0 m) ≡ code m = ap code at.2 in
      let le = h 0 (suc at.0) m (omega arith) (omega (arith, at.1)) in
      omega arith,
  climbs_from_sorted ls (λ i j d le lt. h (suc i) (suc j) d (omega arith) (omega arith)),
)

-- the test that two literals are one
abbrev pub same_code : Literal → Literal → Bool
same_code l m = nat_eq (code l) (code m)

-- leaving out a repeated literal, or keeping another one, leaves the set as it was
dedup_keeps_next : (k x : Literal) (xs : Lits) (l : Literal) (b : Bool) → same_code x k ≡ b
    → SameSet (dedup_from same_code k xs) (k ∷ xs) → SameSet (dedup_from same_code x xs) (x ∷ xs)
    → Has (cond b (dedup_from same_code k xs) (k ∷ dedup_from same_code x xs)) l ↔ Has (k ∷ x ∷ xs) l
dedup_keeps_next k x xs l true e with_k with_x =
    let same : x ≡ k = code_injective x k (eqb-true (code x) (code k) e) in
    grind (arith, with_k l, same)
dedup_keeps_next k x xs l false e with_k with_x = grind (arith, with_x l)

-- what is left has the same literals
dedup_keeps : (k : Literal) (ls : Lits) → SameSet (dedup_from same_code k ls) (k ∷ ls)
dedup_keeps k [] l = (λ h. h, λ h. h)
dedup_keeps k (x ∷ xs) l = dedup_keeps_next k x xs l (same_code x k) refl (dedup_keeps k xs) (dedup_keeps x xs)

-- behind a literal that is kept or left out as a repeated one, the literals stay in their order
dedup_orders_next : (k x : Literal) (xs : Lits) (b : Bool) → same_code x k ≡ b → Climbs (k ∷ x ∷ xs)
    → IsOrdered (dedup_from same_code k xs) → IsOrdered (dedup_from same_code x xs)
    → IsOrdered (cond b (dedup_from same_code k xs) (k ∷ dedup_from same_code x xs))
dedup_orders_next k x xs true e h with_k with_x = with_k
dedup_orders_next k x xs false e h with_k with_x = (
  λ m i. let le : code k ≤ code x = h.0 x (inl refl) in
      let other : code x ≡ code k → ⊥ = eqb-false (code x) (code k) e in
      elim ((dedup_keeps x xs m).0 i) [
        | inl same ↦ let to : code x ≡ code m = ap code same in omega arith
        | inr later ↦ let to : code x ≤ code m = h.1.0 m later in omega arith
      ],
  with_x,
)

-- climbing literals without the repeated ones are in their order
dedup_orders : (k : Literal) (ls : Lits) → Climbs (k ∷ ls) → IsOrdered (dedup_from same_code k ls)
dedup_orders k [] h = (λ m i. absurd i, tt)
dedup_orders k (x ∷ xs) h =
    dedup_orders_next k x xs (same_code x k) refl h
    (dedup_orders k xs (λ m i. h.0 m (inr i), h.1.1)) (dedup_orders x xs h.1)

-- sorted literals without repetition are ordered, and have the same members
pub IsOrdered-dedup : (c : Lits) → IsNonDecreasingBy code c → IsOrdered (dedup same_code c)
IsOrdered-dedup [] h = tt
IsOrdered-dedup (l ∷ ls) h = dedup_orders l ls (climbs_from_sorted (l ∷ ls) h)

-- without its repeated literals a clause is the same set
pub SameSet-dedup : (c : Lits) → SameSet (dedup same_code c) c
SameSet-dedup [] l = (λ h. h, λ h. h)
SameSet-dedup (k ∷ ls) l = dedup_keeps k ls l

-- what `contains` answers
any_next : (x y : Literal) (ys : Lits) (b : Bool) → same_code y x ≡ b → ((list_any (λ z. same_code z x) ys ≡ true) ↔ Has ys x)
    → ((b || list_any (λ z. same_code z x) ys) ≡ true) ↔ Has (y ∷ ys) x
any_next x y ys true e rest = (λ h. inl (code_injective y x (eqb-true (code y) (code x) e)), λ h. refl)
any_next x y ys false e rest = (
  λ h. inr (rest.0 h),
  λ h. elim h [
    | inl same ↦ absurd (eqb-false (code y) (code x) e (ap code same))
    | inr later ↦ rest.1 later
  ],
)

-- a search by code finds a literal just where it is one of the list
pub list_any-Has : (x : Literal) (c : Lits) → (list_any (λ z. same_code z x) c ≡ true) ↔ Has c x
list_any-Has x [] = (λ h. absurd (cc), λ h. absurd h)
list_any-Has x (y ∷ ys) = any_next x y ys (same_code y x) refl (list_any-Has x ys)
