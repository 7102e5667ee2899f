-- What lists have that are made of others.
use Rattle.std.proofs.Common.{◌≡◌, ℕ, zero, suc, ◌<◌, ◌⊎◌, inl, inr, List, [], ◌∷◌, ◌++◌, length, map, get_or, refl, ap, subst, ⊎_elim, arith}
use Rattle.std.proofs.lemmas.Bool.{cases_lt}
use Rattle.clause_defs.specs.Clauses.{Has}
use Rattle.clause_laws.proofs.ClauseLemmas.{Has-map}
use Rattle.fabric_defs.specs.Numbered.{list_of, joined}

-- a member of two lists is one of the first or of the second
pub Has-append : {X : Type 0} (xs ys : List X) (z : X) → Has (xs ++ ys) z → Has xs z ⊎ Has ys z
Has-append [] ys z h = inr h
Has-append (x ∷ xs) ys z (inl e) = inl (inl e)
Has-append (x ∷ xs) ys z (inr h) = elim (Has-append xs ys z h) [ inl first ↦ inl (inr first) | inr second ↦ inr second ]

-- a member of the first
pub Has-append_left : {X : Type 0} (xs ys : List X) (z : X) → Has xs z → Has (xs ++ ys) z
Has-append_left [] ys z h = absurd h
Has-append_left (x ∷ xs) ys z (inl e) = inl e
Has-append_left (x ∷ xs) ys z (inr h) = inr (Has-append_left xs ys z h)

-- a member of the second
pub Has-append_right : {X : Type 0} (xs ys : List X) (z : X) → Has ys z → Has (xs ++ ys) z
Has-append_right [] ys z h = h
Has-append_right (x ∷ xs) ys z h = inr (Has-append_right xs ys z h)

-- the image of a member
pub Has-map_of : {X Y : Type 0} (g : X → Y) (xs : List X) (x : X) → Has xs x → Has (map g xs) (g x)
Has-map_of g [] x h = absurd h
Has-map_of g (y ∷ ys) x (inl e) = inl (ap g e)
Has-map_of g (y ∷ ys) x (inr h) = inr (Has-map_of g ys x h)

-- a member is the value at a place below n
pub Has-list_of : {X : Type 0} (n : ℕ) (f : ℕ → X) (z : X) → Has (list_of n f) z → (i : ℕ) × (i < n) × (f i ≡ z)
Has-list_of zero f z h = absurd h
Has-list_of (suc n) f z h =
    elim (Has-append (list_of n f) (f n ∷ []) z h) [
      | inl before ↦ let r = Has-list_of n f z before in let below : r.0 < n = r.1 in (r.0, omega arith, r.2)
      | inr last ↦ elim last [ inl e ↦ (n, omega arith, e) | inr none ↦ absurd none ]
    ]

-- the value at a place below n
pub list_of-has : {X : Type 0} (n : ℕ) (f : ℕ → X) (i : ℕ) → i < n → Has (list_of n f) (f i)
list_of-has zero f i lt = absurd (omega arith)
list_of-has (suc n) f i lt =
    ⊎_elim (λ here. Has-append_left (list_of n f) (f n ∷ []) (f i) (list_of-has n f i here))
    (λ past. let e : n ≡ i = omega arith in Has-append_right (list_of n f) (f n ∷ []) (f i) (inl (ap f e)))
    (cases_lt i n)

-- a member is one of a part below n
pub Has-joined : {X : Type 0} (n : ℕ) (f : ℕ → List X) (z : X) → Has (joined n f) z → (i : ℕ) × (i < n) × Has (f i) z
Has-joined zero f z h = absurd h
Has-joined (suc n) f z h =
    elim (Has-append (joined n f) (f n) z h) [
      | inl before ↦ let r = Has-joined n f z before in let below : r.0 < n = r.1 in (r.0, omega arith, r.2)
      | inr last ↦ (n, omega arith, last)
    ]

-- where a member stands
pub Has_place : {X : Type 0} (xs : List X) (x d : X) → Has xs x → (i : ℕ) × (i < length xs) × (get_or xs i d ≡ x)
Has_place [] x d h = absurd h
Has_place (y ∷ ys) x d (inl e) = (0, omega arith, e)
Has_place (y ∷ ys) x d (inr h) =
    let r = Has_place ys x d h in let below : r.0 < length ys = r.1 in (suc r.0, omega arith, r.2)

-- what stands at a place is a member
pub place_has : {X : Type 0} (xs : List X) (i : ℕ) (d : X) → i < length xs → Has xs (get_or xs i d)
place_has [] i d lt = absurd (omega arith)
place_has (x ∷ xs) zero d lt = inl refl
place_has (x ∷ xs) (suc i) d lt = inr (place_has xs i d (omega arith))

-- ---- what holds of each member

-- P holds of each member of the list
abbrev pub Each : {X : Type 0} → (X → Type 0) → List X → Type 0
Each {X} P xs = (x : X) → Has xs x → P x

-- of the empty list
pub each_nil : {X : Type 0} (P : X → Type 0) → Each P []
each_nil P x has = absurd has

-- of a list with one more element
pub each_cons : {X : Type 0} (P : X → Type 0) (x : X) (xs : List X) → P x → Each P xs → Each P (x ∷ xs)
each_cons P x xs p q y has = elim has [ inl e ↦ subst P e p | inr later ↦ q y later ]

-- of one element
pub each_one : {X : Type 0} (P : X → Type 0) (x : X) → P x → Each P (x ∷ [])
each_one P x p = each_cons P x [] p (each_nil P)

-- of two lists
pub each_append : {X : Type 0} (P : X → Type 0) (xs ys : List X) → Each P xs → Each P ys → Each P (xs ++ ys)
each_append P xs ys p q z has = elim (Has-append xs ys z has) [ inl first ↦ p z first | inr second ↦ q z second ]

-- of the images of a list
pub each_map : {X Y : Type 0} (P : Y → Type 0) (g : X → Y) (xs : List X) → ((x : X) → Has xs x → P (g x)) → Each P (map g xs)
each_map P g xs h y has = let from = Has-map g xs y has in subst P from.2 (h from.0 from.1)

-- of the values below n
pub each_list_of : {X : Type 0} (P : X → Type 0) (n : ℕ) (f : ℕ → X) → ((i : ℕ) → i < n → P (f i)) → Each P (list_of n f)
each_list_of P n f h x has = let from = Has-list_of n f x has in subst P from.2 (h from.0 from.1)

-- of the parts below n
pub each_joined : {X : Type 0} (P : X → Type 0) (n : ℕ) (f : ℕ → List X) → ((i : ℕ) → i < n → Each P (f i)) → Each P (joined n f)
each_joined P n f h x has = let from = Has-joined n f x has in h from.0 from.1 x from.2
