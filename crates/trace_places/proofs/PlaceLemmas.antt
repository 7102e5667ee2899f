-- Where an index stands in a list.
use Rattle.std.proofs.Common.{◌≡◌, ℕ, zero, suc, ◌+◌, ◌<◌, ◌==◌, true, false, if◌then◌else◌, List, [], ◌∷◌, ◌++◌, length, get_or, drop, replicate, Option, Some, None, Ok, Err, ◌⊎◌, refl, sym, ap, ◌∙◌, inl, inr, arith, subst, nat_cmp, length-append}
use Rattle.std.proofs.lemmas.List.{drop_more}
use Rattle.std.proofs.lemmas.Bool.{cases_Bool, cases_lt, eq-eqb, ne_eqb, lt-ltb, le-ltb}
use Rattle.std.specs.BTreeMap.{is_at}
use Rattle.clause_defs.specs.Clauses.{Has}
use Rattle.sat_text_defs.specs.TraceReading.{places_from}
use Rattle.clause_defs.specs.Traces.{place_of, place_from}

-- one more index is found
pub places_from-next : (indices ps xs : List ℕ) (i p : ℕ) → i < length xs → place_of indices (get_or xs i 0) ≡ Some p
    → places_from indices ps (drop i xs) ≡ places_from indices (ps ++ p ∷ []) (drop (i + 1) xs)
places_from-next indices ps xs i p h e = rw (drop_more xs i 0 h, e) refl

-- one more index at the end
abbrev either : Option ℕ → Option ℕ → Option ℕ
either None place = place
either (Some place) other = Some place

-- with one more index behind them, an index is found as before, or else at the end
place_from-push : (k : ℕ) (xs : List ℕ) (x y : ℕ) → place_from k (xs ++ x ∷ []) y ≡ either (place_from k xs y) (if x == y then Some (k + length xs) else None)
place_from-push k [] x y = ap (λ (n : ℕ). if x == y then Some n else None) (let e : k ≡ k + 0 = omega arith in e)
place_from-push k (z ∷ zs) x y = elim (cases_Bool (z == y)) [
  | inl e ↦ rw e refl
  | inr e ↦ rw e (place_from-push (k + 1) zs x y ∙ ap (λ (n : ℕ). either (place_from (k + 1) zs y) (if x == y then Some n else None)) (let e : k + 1 + length zs ≡ k + length (z ∷ zs) = omega arith in e))
]

-- a new index has the last place
pub place_of-push_same : (xs : List ℕ) (x : ℕ) → place_of xs x ≡ None → place_of (xs ++ x ∷ []) x ≡ Some (length xs)
place_of-push_same xs x none = place_from-push 0 xs x x ∙ rw (none, eq-eqb x x refl) (ap (λ (n : ℕ). Some n) (let e : 0 + length xs ≡ length xs = omega arith in e))

-- nothing to fall back on changes nothing
either-none : (a : Option ℕ) → either a None ≡ a
either-none None = refl
either-none (Some p) = refl

-- with one more index, each other one has the place that it had
pub place_of-push_other : (xs : List ℕ) (x y : ℕ) → (x ≡ y → ⊥) → place_of (xs ++ x ∷ []) y ≡ place_of xs y
place_of-push_other xs x y other = place_from-push 0 xs x y ∙ rw (ne_eqb x y other) (either-none (place_of xs y))

-- ---- the table and the map

-- a number is found at its own key
pub is_at_same : (x : ℕ) → is_at (nat_cmp x) x ≡ true
is_at_same x = rw (le-ltb x x (omega arith), eq-eqb x x refl) refl

-- a number isn't found at another key
pub is_at_other : (x y : ℕ) → (x ≡ y → ⊥) → is_at (nat_cmp x) y ≡ false
is_at_other x y other = elim (cases_lt x y) [
  | inl h ↦ rw (lt-ltb x y h) refl
  | inr h ↦ rw (le-ltb x y h, ne_eqb x y other) refl
]

-- a table of zeros has 0 everywhere
get_or-zeros : (k y : ℕ) → get_or {A = ℕ} (replicate k 0) y 0 ≡ 0
get_or-zeros zero y = refl
get_or-zeros (suc k) zero = refl
get_or-zeros (suc k) (suc y) = get_or-zeros k y

-- a table that is longer by zeros says the same
pub get_or-longer : (table : List ℕ) (k y : ℕ) → get_or (table ++ replicate k 0) y 0 ≡ get_or table y 0
get_or-longer [] k y = get_or-zeros k y
get_or-longer (e ∷ es) k zero = refl
get_or-longer (e ∷ es) k (suc y) = get_or-longer es k y

-- ---- what is found, and what isn't

-- an index without a place stands nowhere
place_from-none : (k : ℕ) (xs : List ℕ) (x : ℕ) → place_from k xs x ≡ None → (j : ℕ) → j < length xs → get_or xs j 0 ≡ x → ⊥
place_from-none k [] x none j h e = absurd (omega arith)
place_from-none k (y ∷ ys) x none zero h e = let here : place_from k (y ∷ ys) x ≡ Some k = rw (eq-eqb y x e) refl in absurd (cc)
place_from-none k (y ∷ ys) x none (suc j) h e = elim (cases_Bool (y == x)) [
  | inl f ↦ (let here : place_from k (y ∷ ys) x ≡ Some k = rw f refl in absurd (cc))
  | inr f ↦ place_from-none (k + 1) ys x (let there : place_from k (y ∷ ys) x ≡ place_from (k + 1) ys x = rw f refl in sym there ∙ none) j (omega arith) e
]

-- an index without a place stands nowhere
pub place_of-none : (xs : List ℕ) (x : ℕ) → place_of xs x ≡ None → (j : ℕ) → j < length xs → get_or xs j 0 ≡ x → ⊥
place_of-none xs x none = place_from-none 0 xs x none

-- the place of an index is before the end
place_from-below : (k : ℕ) (xs : List ℕ) (x p : ℕ) → place_from k xs x ≡ Some p → p < k + length xs
place_from-below k [] x p e = absurd (cc)
place_from-below k (y ∷ ys) x p e = elim (cases_Bool (y == x)) [
  | inl f ↦ (let here : place_from k (y ∷ ys) x ≡ Some k = rw f refl in let same : k ≡ p = cc in omega arith)
  | inr f ↦ (let there : place_from k (y ∷ ys) x ≡ place_from (k + 1) ys x = rw f refl in let below = place_from-below (k + 1) ys x p (sym there ∙ e) in omega arith)
]

-- a place is below the length
pub place_of-below : (xs : List ℕ) (x p : ℕ) → place_of xs x ≡ Some p → p < length xs
place_of-below xs x p e = let below = place_from-below 0 xs x p e in omega arith

-- what stands in a list with one more is that one or stood there before
Has-push : (xs : List ℕ) (x y : ℕ) → Has (xs ++ x ∷ []) y → Has xs y ⊎ (x ≡ y)
Has-push [] x y h = elim h [ inl e ↦ inr e | inr k ↦ absurd k ]
Has-push (z ∷ zs) x y h = elim h [ inl e ↦ inl (inl e) | inr k ↦ elim (Has-push zs x y k) [ inl i ↦ inl (inr i) | inr e ↦ inr e ] ]

-- where the places of a clause's antecedents were found, that of the first one was
places_found : (indices ps xs qs : List ℕ) (x : ℕ) (place : Option ℕ) → place_of indices x ≡ place → places_from indices ps (x ∷ xs) ≡ Ok qs
    → (p : ℕ) × (place_of indices x ≡ Some p) × (places_from indices (ps ++ p ∷ []) xs ≡ Ok qs)
places_found indices ps xs qs x None e h = let fails : places_from indices ps (x ∷ xs) ≡ Err x = rw e refl in absurd (cc)
places_found indices ps xs qs x (Some p) e h = let goes_on : places_from indices ps (x ∷ xs) ≡ places_from indices (ps ++ p ∷ []) xs = rw e refl in (p, e, sym goes_on ∙ h)

-- all places that are found are below the length
pub places_from-below : (indices ps xs qs : List ℕ) → ((p : ℕ) → Has ps p → p < length indices) → places_from indices ps xs ≡ Ok qs
    → (p : ℕ) → Has qs p → p < length indices
places_from-below indices ps [] qs below e p h = let same : ps ≡ qs = cc in below p (subst (λ (l : List ℕ). Has l p) (sym same) h)
places_from-below indices ps (x ∷ xs) qs below e p h =
    let found = places_found indices ps xs qs x (place_of indices x) refl e in
    places_from-below indices (ps ++ found.0 ∷ []) xs qs
    (λ q k. elim (Has-push ps found.0 q k) [ inl i ↦ below q i | inr same ↦ subst (λ (n : ℕ). n < length indices) same (place_of-below indices x found.0 found.1) ])
    found.2 p h

-- one place is found for each index
pub places_from-length : (indices ps xs qs : List ℕ) → places_from indices ps xs ≡ Ok qs → length qs ≡ length ps + length xs
places_from-length indices ps [] qs e = let same : ps ≡ qs = cc in let lengths : length ps ≡ length qs = ap length same in omega arith
places_from-length indices ps (x ∷ xs) qs e =
    let found = places_found indices ps xs qs x (place_of indices x) refl e in
    let rest = places_from-length indices (ps ++ found.0 ∷ []) xs qs found.2 in
    let one : length (ps ++ found.0 ∷ []) ≡ length ps + 1 = length-append ps (found.0 ∷ []) in omega arith
