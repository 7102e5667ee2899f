-- Lists that go with each other place by place.
use Rattle.std.proofs.Common.{ℕ, ◌+◌, ◌<◌, List, [], ◌∷◌, ◌++◌, length, take, get_or, All, sym, subst, arith}
use Rattle.std.proofs.lemmas.List.{take_more}
use Rattle.std.specs.List.{AllZip}
use Rattle.net_laws.proofs.PlaceLemmas.{zip_at, zip_length}

-- one more pair
pub all_zip-push : {A B : Type 0} (R : A → B → Type 0) (xs : List A) (ys : List B) (x : A) (y : B) → AllZip R xs ys → R x y
    → AllZip R (xs ++ x ∷ []) (ys ++ y ∷ [])
all_zip-push R [] [] x y h r = (r, tt)
all_zip-push R [] (z ∷ ys) x y h r = absurd h
all_zip-push R (z ∷ xs) [] x y h r = absurd h
all_zip-push R (z ∷ xs) (w ∷ ys) x y h r = (h.0, all_zip-push R xs ys x y h.1 r)

-- a loop's step
pub all_zip-more : {A B : Type 0} (R : A → B → Type 0) (xs : List A) (ys : List B) (i : ℕ) (d : A) (y : B) → i < length xs
    → AllZip R (take i xs) ys → R (get_or xs i d) y → AllZip R (take (i + 1) xs) (ys ++ y ∷ [])
all_zip-more R xs ys i d y lt h r =
    let P : List _ → Type 0 = λ l. AllZip R l (ys ++ y ∷ []) in
    subst P (sym (take_more xs i d lt)) (all_zip-push R (take i xs) ys (get_or xs i d) y h r)

-- what follows at each place of the second list
pub all_zip-right : {A B : Type 0} (R : A → B → Type 0) (P : B → Type 0) (xs : List A) (ys : List B) → ((x : A) (y : B) → R x y → P y)
    → AllZip R xs ys → (d : A) → All P ys
all_zip-right R P xs ys f h d = λ i e lt. f _ _ (zip_at R xs ys i d e h (omega (arith, zip_length R xs ys h)))
