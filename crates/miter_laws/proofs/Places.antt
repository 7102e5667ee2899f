-- What stands at a place of a list that is made of others.
use Rattle.std.proofs.Common.{◌≡◌, ℕ, zero, suc, ◌+◌, ◌<◌, Bool, true, false, cond, List, [], ◌∷◌, ◌++◌, length, take, get_or, slice_get, Some, sum_by, count_by, flat_map, refl, ap, ◌∙◌, arith, length-append}
use Rattle.std.proofs.lemmas.List.Sums.{sum_by-cons}
use Rattle.std.proofs.lemmas.Option.{slice_get-get_or}
use Rattle.fabric_defs.specs.Numbered.{list_of}
use Rattle.fabric_laws.proofs.NumberedLemmas.{length-list_of, get_or-list_of}
use Rattle.miter_laws.proofs.Membership.{Each, each_nil, each_cons}

-- a place of the first list
pub at_left : {X : Type 0} (xs ys : List X) (i : ℕ) (x : X) → slice_get xs i ≡ Some x → slice_get (xs ++ ys) i ≡ Some x
at_left [] ys i x h = cc
at_left (z ∷ xs) ys zero x h = h
at_left (z ∷ xs) ys (suc i) x h = at_left xs ys i x h

-- m is the place i behind the first list
pub at_right : {X : Type 0} (xs ys : List X) (i m : ℕ) (x : X) → m ≡ length xs + i → slice_get ys i ≡ Some x
    → slice_get (xs ++ ys) m ≡ Some x
at_right [] ys i m x e h = let same : m ≡ i = omega arith in ap (slice_get ys) same ∙ h
at_right (z ∷ xs) ys i zero x e h = absurd (omega arith)
at_right (z ∷ xs) ys i (suc m) x e h = at_right xs ys i m x (omega arith) h

-- place i has the value at i
pub at_list_of : {X : Type 0} (n : ℕ) (f : ℕ → X) (i : ℕ) → i < n → slice_get (list_of n f) i ≡ Some (f i)
at_list_of n f i lt =
    slice_get-get_or (list_of n f) i (f i) (omega (arith, length-list_of n f)) ∙ ap Some (get_or-list_of n f i (f i) lt)

-- the lists that f gives of elements have the sizes g
pub length-flat_map_by : {X A : Type 0} (f : X → List A) (g : X → ℕ) → ((y : X) → length (f y) ≡ g y)
    → (xs : List X) → length (flat_map f xs) ≡ sum_by g xs
length-flat_map_by f g same [] = refl
length-flat_map_by f g same (x ∷ xs) =
    length-append (f x) (flat_map f xs)
    ∙ omega (arith, same x, length-flat_map_by f g same xs, sum_by-cons g x xs)

-- element r of the list that f gives of element v stands behind those of the elements before
pub at_flat_map : {X A : Type 0} (f : X → List A) (g : X → ℕ) → ((y : X) → length (f y) ≡ g y)
    → (xs : List X) (v r m : ℕ) (d : X) (a : A) → v < length xs → m ≡ sum_by g (take v xs) + r
    → slice_get (f (get_or xs v d)) r ≡ Some a → slice_get (flat_map f xs) m ≡ Some a
at_flat_map f g same [] v r m d a lt e h = absurd (omega arith)
at_flat_map f g same (x ∷ xs) zero r m d a lt e h =
    let place : m ≡ r = e ∙ omega arith in
    ap (slice_get (f x ++ flat_map f xs)) place ∙ at_left (f x) (flat_map f xs) r a h
at_flat_map f g same (x ∷ xs) (suc v) r m d a lt e h =
    at_right (f x) (flat_map f xs) (sum_by g (take v xs) + r) m a
    (omega (arith, e, same x, sum_by-cons g x (take v xs)))
    (at_flat_map f g same xs v r (sum_by g (take v xs) + r) d a (omega arith) refl h)

-- the values of a function at the marked places, in their order
abbrev pub kept : List Bool → (ℕ → ℕ) → List ℕ
kept [] f = []
kept (true ∷ marks) f = f 0 ∷ kept marks (λ i. f (suc i))
kept (false ∷ marks) f = kept marks (λ i. f (suc i))

-- how many places are marked
abbrev pub marked : List Bool → ℕ
marked marks = count_by (λ (mark : Bool). mark) marks

-- how many the first place counts for
abbrev ones : Bool → ℕ
ones mark = cond mark 1 0

-- there are as many values as marked places
pub length-kept : (marks : List Bool) (f : ℕ → ℕ) → length (kept marks f) ≡ marked marks
length-kept [] f = refl
length-kept (true ∷ marks) f = omega (arith, length-kept marks (λ i. f (suc i)), sum_by-cons ones true marks)
length-kept (false ∷ marks) f = omega (arith, length-kept marks (λ i. f (suc i)), sum_by-cons ones false marks)

-- the value at a marked place stands behind those at the marked places before
pub at_kept : (marks : List Bool) (f : ℕ → ℕ) (k m : ℕ) → get_or marks k false ≡ true → m ≡ marked (take k marks)
    → slice_get (kept marks f) m ≡ Some (f k)
at_kept [] f k m is at = cc
at_kept (true ∷ marks) f zero m is at = ap (slice_get (kept (true ∷ marks) f)) at
at_kept (false ∷ marks) f zero m is at = cc
at_kept (true ∷ marks) f (suc k) m is at =
    let place : m ≡ suc (marked (take k marks)) = omega (arith, at, sum_by-cons ones true (take k marks)) in
    ap (slice_get (kept (true ∷ marks) f)) place ∙ at_kept marks (λ i. f (suc i)) k (marked (take k marks)) is refl
at_kept (false ∷ marks) f (suc k) m is at =
    let place : m ≡ marked (take k marks) = omega (arith, at, sum_by-cons ones false (take k marks)) in
    at_kept marks (λ i. f (suc i)) k m is place

-- what holds of the function's values holds of those that are kept
pub each_kept : (P : ℕ → Type 0) (marks : List Bool) (f : ℕ → ℕ) → ((i : ℕ) → P (f i)) → Each P (kept marks f)
each_kept P [] f h = each_nil P
each_kept P (true ∷ marks) f h =
    each_cons P (f 0) (kept marks (λ i. f (suc i))) (h 0) (each_kept P marks (λ i. f (suc i)) (λ i. h (suc i)))
each_kept P (false ∷ marks) f h = each_kept P marks (λ i. f (suc i)) (λ i. h (suc i))
