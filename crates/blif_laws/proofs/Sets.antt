-- Lists of names in which no name stands twice, and lists of which each element has a property.
use Rattle.std.proofs.Common.{◌≡◌, ℕ, Bool, true, false, ◌||◌, List, [], ◌∷◌, ◌++◌, refl, ◌∙◌, eqb, arith}
use Rattle.std.specs.List.{AllByRecursion, IsDistinct}
use Rattle.std.specs.Str.{bytes_eq}
use Rattle.std.proofs.lemmas.Bool.Decides.{nat_tests}
use Rattle.std.proofs.lemmas.Map.Keys.{IsDistinct-head, IsDistinct-tail, IsDistinct-cons}
use Rattle.blif_defs.specs.Drafts.{is_among}

-- what holds of all elements of two lists holds of all of both
pub All-append : {X : Type 0} (P : X → Type 0) (xs ys : List X) → AllByRecursion P xs → AllByRecursion P ys → AllByRecursion P (xs ++ ys)
All-append P [] ys h k = k
All-append P (x ∷ xs) ys h k = (h.0, All-append P xs ys h.1 k)

-- and of the first of them
pub All-left : {X : Type 0} (P : X → Type 0) (xs ys : List X) → AllByRecursion P (xs ++ ys) → AllByRecursion P xs
All-left P [] ys h = tt
All-left P (x ∷ xs) ys h = (h.0, All-left P xs ys h.1)

-- and of the second
pub All-right : {X : Type 0} (P : X → Type 0) (xs ys : List X) → AllByRecursion P (xs ++ ys) → AllByRecursion P ys
All-right P [] ys h = h
All-right P (x ∷ xs) ys h = All-right P xs ys h.1

-- equality of numbers may be tested either way round
eqb_comm : (a b : ℕ) → eqb a b ≡ eqb b a
eqb_comm a b = grind (arith, nat_tests)

-- equality of bytes goes both ways
pub bytes_eq_comm : (a b : List ℕ) → bytes_eq a b ≡ bytes_eq b a
bytes_eq_comm [] [] = refl
bytes_eq_comm [] (b ∷ bs) = refl
bytes_eq_comm (a ∷ more) [] = refl
bytes_eq_comm (a ∷ more) (b ∷ bs) = rw (eqb_comm a b, bytes_eq_comm more bs) refl

-- where not one of two tests holds, both fail
neither : (a b : Bool) → (a || b) ≡ false → (a ≡ false) × (b ≡ false)
neither true b e = absurd cc
neither false b e = (refl, e)

-- a name that isn't among names differs from each of them
pub apart_from_each : (name : List ℕ) (names : List (List ℕ)) → is_among name names ≡ false → AllByRecursion (λ n. bytes_eq name n ≡ false) names
apart_from_each name [] e = tt
apart_from_each name (n ∷ ns) e =
    let h = neither (bytes_eq name n) (is_among name ns) e in
    (h.0, apart_from_each name ns h.1)

-- a name that differs from each isn't among them
pub absent : (name : List ℕ) (names : List (List ℕ)) → AllByRecursion (λ n. bytes_eq name n ≡ false) names → is_among name names ≡ false
absent name [] h = refl
absent name (n ∷ ns) h = rw (h.0, absent name ns h.1) refl

-- a name that isn't among them is put between names that differ
pub distinct_insert : (xs ys : List (List ℕ)) (name : List ℕ) → IsDistinct bytes_eq (xs ++ ys) → is_among name (xs ++ ys) ≡ false → IsDistinct bytes_eq (xs ++ name ∷ ys)
distinct_insert [] ys name d fresh = IsDistinct-cons bytes_eq name ys (apart_from_each name ys fresh) d
distinct_insert (x ∷ xs) ys name d fresh =
    let h = neither (bytes_eq name x) (is_among name (xs ++ ys)) fresh in
    let apart = IsDistinct-head bytes_eq x (xs ++ ys) d in
    IsDistinct-cons bytes_eq x (xs ++ name ∷ ys)
    (All-append (λ n. bytes_eq x n ≡ false) xs (name ∷ ys) (All-left (λ n. bytes_eq x n ≡ false) xs ys apart)
    (bytes_eq_comm x name ∙ h.0, All-right (λ n. bytes_eq x n ≡ false) xs ys apart))
    (distinct_insert xs ys name (IsDistinct-tail bytes_eq x (xs ++ ys) d) h.1)
