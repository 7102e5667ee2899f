-- What stands at places of a list.
use Rattle.std.proofs.Common.{◌≡◌, ℕ, zero, suc, ◌<◌, ⊎_elim, false, List, [], ◌∷◌, length, get_or, All, Contains, Some, slice_get, refl, ap, sym, subst, ◌∙◌, arith}
use Rattle.std.proofs.lemmas.Bool.{both_ways, false_from_ne_true, cases_order}
use Rattle.std.proofs.lemmas.List.{same_lists}
use Rattle.std.proofs.lemmas.Map.Keys.{apart_from_distinct, IsDistinct-from_apart}
use Rattle.std.proofs.lemmas.Option.{same_Some, slice_get_within, get_or_from_slice_get}
use Rattle.std.proofs.lemmas.Slice.Eq.{bytes_eq-Decides}
use Rattle.std.specs.List.{AllZip, IsDistinct}
use Rattle.std.specs.Str.{bytes_eq}
use Rattle.net_defs.specs.Interfaces.{StandAt, IsRearrangement}

-- what holds of two lists holds at a place
pub zip_at : {A B : Type 0} (R : A → B → Type 0) (xs : List A) (ys : List B) (i : ℕ) (d : A) (e : B) → AllZip R xs ys → i < length xs
    → R (get_or xs i d) (get_or ys i e)
zip_at R [] ys i d e h lt = absurd (omega arith)
zip_at R (x ∷ xs) [] i d e h lt = absurd h
zip_at R (x ∷ xs) (y ∷ ys) zero d e h lt = h.0
zip_at R (x ∷ xs) (y ∷ ys) (suc i) d e h lt = zip_at R xs ys i d e h.1 (omega arith)

-- what follows at each place of the first list
pub zip_all_left : {A B : Type 0} (R : A → B → Type 0) (P : A → Type 0) (xs : List A) (ys : List B) → ((x : A) (y : B) → R x y → P x)
    → AllZip R xs ys → (e : B) → All P xs
zip_all_left R P xs ys f h e = λ i d lt. f _ _ (zip_at R xs ys i d e h lt)

-- lists that go with each other are equally long
pub zip_length : {A B : Type 0} (R : A → B → Type 0) (xs : List A) (ys : List B) → AllZip R xs ys → length ys ≡ length xs
zip_length R [] [] h = refl
zip_length R [] (y ∷ ys) h = absurd h
zip_length R (x ∷ xs) [] h = absurd h
zip_length R (x ∷ xs) (y ∷ ys) h = ap (λ n. suc n) (zip_length R xs ys h.1)

-- a list is determined where each of its elements is
pub zip_unique : {A B : Type 0} (R : A → B → Type 0) → ((x : A) (y z : B) → R x y → R x z → y ≡ z) → (xs : List A) (ys zs : List B)
    → AllZip R xs ys → AllZip R xs zs → ys ≡ zs
zip_unique R one [] [] [] h k = refl
zip_unique R one [] [] (z ∷ zs) h k = absurd k
zip_unique R one [] (y ∷ ys) zs h k = absurd h
zip_unique R one (x ∷ xs) [] zs h k = absurd h
zip_unique R one (x ∷ xs) (y ∷ ys) [] h k = absurd k
zip_unique R one (x ∷ xs) (y ∷ ys) (z ∷ zs) h k =
    ap (λ l. y ∷ l) (zip_unique R one xs ys zs h.1 k.1) ∙ ap (λ w. w ∷ zs) (one x y z h.0 k.0)

-- what stands at place i of the places
pub stands_at : {X : Type 0} (list : List X) (places : List ℕ) (found : List X) (i d : ℕ) (e : X) → StandAt list places found → i < length places
    → slice_get list (get_or places i d) ≡ Some (get_or found i e)
stands_at list places found i d e h lt = zip_at (λ p x. slice_get list p ≡ Some x) places found i d e h lt

-- as much stands there as there are places
pub StandAt-length : {X : Type 0} (list : List X) (places : List ℕ) (found : List X) → StandAt list places found → length found ≡ length places
StandAt-length list places found h = zip_length (λ p x. slice_get list p ≡ Some x) places found h

-- one thing stands at each place
pub StandAt-unique : {X : Type 0} (list : List X) (places : List ℕ) (found other : List X) → StandAt list places found → StandAt list places other
    → found ≡ other
StandAt-unique list places found other h k =
    zip_unique (λ p x. slice_get list p ≡ Some x) (λ p x y a b. same_Some x y (sym a ∙ b)) places found other h k

-- lists with the same at all places are equal
pub StandAt-complete : {X : Type 0} (n : ℕ) (places : List ℕ) (list other found : List X) → IsRearrangement n places → length list ≡ n → length other ≡ n
    → StandAt list places found → StandAt other places found → list ≡ other
StandAt-complete n places list other found r le me h k =
    same_lists list other (le ∙ sym me)
    (λ s d lt. let c = r.complete s (omega arith) in
    let i : ℕ = c.0 in
    let P : ℕ → Type 0 = λ q. slice_get list q ≡ Some (get_or found i d) in
    let Q : ℕ → Type 0 = λ q. slice_get other q ≡ Some (get_or found i d) in
    get_or_from_slice_get list s (get_or found i d) d (subst P c.2 (stands_at list places found i s d h c.1))
    ∙ sym (get_or_from_slice_get other s (get_or found i d) d (subst Q c.2 (stands_at other places found i s d k c.1))))

-- what stands somewhere is an element
pub Contains-standing : {X : Type 0} (list : List X) (s : ℕ) (x : X) → slice_get list s ≡ Some x → Contains list x
Contains-standing list s x h = (s, slice_get_within list s x h, get_or_from_slice_get list s x x h)

-- and what stands at places is among the elements
pub All-standing : {X : Type 0} (list : List X) (places : List ℕ) (found : List X) → StandAt list places found → All (Contains list) found
All-standing list places found h = λ i d lt.
    Contains-standing list (get_or places i 0) (get_or found i d)
    (stands_at list places found i 0 d h (omega (arith, StandAt-length list places found h)))

-- no name stands at two places of distinct names
pub names_apart : (names : List (List ℕ)) (x : List ℕ) (i j : ℕ) → IsDistinct bytes_eq names → slice_get names i ≡ Some x → slice_get names j ≡ Some x
    → i < j → ⊥
names_apart names x i j h at_i at_j below =
    let P : List ℕ → Type 0 = λ l. bytes_eq l (get_or names j x) ≡ false in
    let Q : List ℕ → Type 0 = λ l. bytes_eq x l ≡ false in
    let no = apart_from_distinct bytes_eq names i j x h below (slice_get_within names j x at_j) in
    both_ways (bytes_eq x x)
    (subst Q (get_or_from_slice_get names j x x at_j) (subst P (get_or_from_slice_get names i x x at_i) no))
    ((bytes_eq-Decides x x).1 refl)

-- a name stands at one place of distinct names
pub same_place : (names : List (List ℕ)) (x : List ℕ) (i j : ℕ) → IsDistinct bytes_eq names → slice_get names i ≡ Some x → slice_get names j ≡ Some x
    → i ≡ j
same_place names x i j h at_i at_j =
    ⊎_elim (λ e. e)
    (λ apart. ⊎_elim (λ below. absurd (names_apart names x i j h at_i at_j below)) (λ above. absurd (names_apart names x j i h at_j at_i above)) apart)
    (cases_order i j)

-- distinct names stay so in another order
pub IsDistinct-rearranged : (names found : List (List ℕ)) (places : List ℕ) → IsDistinct bytes_eq names → IsRearrangement (length names) places
    → StandAt names places found → IsDistinct bytes_eq found
IsDistinct-rearranged names found places h r s =
    IsDistinct-from_apart bytes_eq found
    (λ i j d below lt. false_from_ne_true (bytes_eq (get_or found i d) (get_or found j d))
    (λ yes. let size = StandAt-length names places found s in
    let same : get_or found i d ≡ get_or found j d = (bytes_eq-Decides (get_or found i d) (get_or found j d)).0 yes in
    r.distinct i j below (omega (arith, size, r.as_many))
    (same_place names (get_or found j d) (get_or places i 0) (get_or places j 0) h
    (stands_at names places found i 0 d s (omega arith) ∙ ap Some same)
    (stands_at names places found j 0 d s (omega arith)))))
