-- The commands and the replies of lanes, where the last lane has one element more.
use Rattle.std.proofs.Common.{◌≡◌, ℕ, zero, suc, ◌+◌, ◌⊎◌, inl, inr, List, [], ◌∷◌, ◌++◌, length, take, Some, refl, ap, ◌∙◌, add-one}
use Rattle.std.specs.List.{slice_get}
use Rattle.std.proofs.Math.Seq.{take-suc}
use Rattle.std.proofs.lemmas.Option.{none-some, same_Some, slice_get_within, get_or_from_slice_get}
use Rattle.session_defs.specs.Meant.{at_turn}

-- ---- one list

-- what stands in a list stands in a longer one
pub slice_get-longer : {X : Type 0} (xs ys : List X) (i : ℕ) (x : X) → slice_get xs i ≡ Some x
    → slice_get (xs ++ ys) i ≡ Some x
slice_get-longer [] ys i x found = absurd (none-some x found)
slice_get-longer (y ∷ xs) ys zero x found = found
slice_get-longer (y ∷ xs) ys (suc i) x found = slice_get-longer xs ys i x found

-- the last element stands behind the others
pub slice_get-last : {X : Type 0} (xs : List X) (y : X) → slice_get (xs ++ y ∷ []) (length xs) ≡ Some y
slice_get-last [] y = refl
slice_get-last (x ∷ xs) y = slice_get-last xs y

-- each element is one of the others, or the last one
pub slice_get-split : {X : Type 0} (xs : List X) (y : X) (i : ℕ) (x : X) → slice_get (xs ++ y ∷ []) i ≡ Some x
    → (slice_get xs i ≡ Some x) ⊎ ((i ≡ length xs) × (y ≡ x))
slice_get-split [] y zero x found = inr (refl, same_Some y x found)
slice_get-split [] y (suc i) x found = absurd (none-some x found)
slice_get-split (z ∷ xs) y zero x found = inl found
slice_get-split (z ∷ xs) y (suc i) x found =
    elim (slice_get-split xs y i x found) [ inl old ↦ inl old | inr new ↦ inr (ap suc new.0, new.1) ]

-- the first elements and the next one
pub take-next : {X : Type 0} (xs : List X) (i : ℕ) (x : X) → slice_get xs i ≡ Some x → take (i + 1) xs ≡ take i xs ++ x ∷ []
take-next xs i x found =
    ap (λ n. take n xs) (add-one i) ∙ take-suc xs i x (slice_get_within xs i x found)
    ∙ ap (λ e. take i xs ++ e ∷ []) (get_or_from_slice_get xs i x x found)

-- ---- lanes

-- what stood at a turn stands there still
pub at_turn-longer : {X : Type 0} (ls : List (List X)) (cs : List X) (c : X) (lane turn : ℕ) (x : X)
    → at_turn (ls ++ cs ∷ []) lane turn ≡ Some x → at_turn (ls ++ (cs ++ c ∷ []) ∷ []) lane turn ≡ Some x
at_turn-longer [] cs c zero turn x found = slice_get-longer cs (c ∷ []) turn x found
at_turn-longer [] cs c (suc lane) turn x found = found
at_turn-longer (l ∷ ls) cs c zero turn x found = found
at_turn-longer (l ∷ ls) cs c (suc lane) turn x found = at_turn-longer ls cs c lane turn x found

-- the new element stands at the end of the last lane
pub at_turn-last : {X : Type 0} (ls : List (List X)) (cs : List X) (c : X)
    → at_turn (ls ++ (cs ++ c ∷ []) ∷ []) (length ls) (length cs) ≡ Some c
at_turn-last [] cs c = slice_get-last cs c
at_turn-last (l ∷ ls) cs c = at_turn-last ls cs c

-- and nothing stood there
pub at_turn-free : {X : Type 0} (ls : List (List X)) (cs : List X) (x : X)
    → at_turn (ls ++ cs ∷ []) (length ls) (length cs) ≡ Some x → ⊥
at_turn-free [] [] x found = none-some x found
at_turn-free [] (c ∷ cs) x found = at_turn-free [] cs x found
at_turn-free (l ∷ ls) cs x found = at_turn-free ls cs x found

-- each element stood there before, or is the new one
pub at_turn-split : {X : Type 0} (ls : List (List X)) (cs : List X) (c : X) (lane turn : ℕ) (x : X)
    → at_turn (ls ++ (cs ++ c ∷ []) ∷ []) lane turn ≡ Some x
    → (at_turn (ls ++ cs ∷ []) lane turn ≡ Some x) ⊎ ((lane ≡ length ls) × (turn ≡ length cs) × (c ≡ x))
at_turn-split [] cs c zero turn x found =
    elim (slice_get-split cs c turn x found) [ inl old ↦ inl old | inr new ↦ inr (refl, new.0, new.1) ]
at_turn-split [] cs c (suc lane) turn x found = inl found
at_turn-split (l ∷ ls) cs c zero turn x found = inl found
at_turn-split (l ∷ ls) cs c (suc lane) turn x found =
    elim (at_turn-split ls cs c lane turn x found) [
      | inl old ↦ inl old
      | inr new ↦ inr (ap suc new.0, new.1, new.2)
    ]

-- an empty lane more has no element
pub at_turn-empty : {X : Type 0} (ls : List (List X)) (lane turn : ℕ) (x : X)
    → at_turn (ls ++ [] ∷ []) lane turn ≡ Some x → at_turn ls lane turn ≡ Some x
at_turn-empty [] zero turn x found = absurd (none-some x found)
at_turn-empty [] (suc lane) turn x found = found
at_turn-empty (l ∷ ls) zero turn x found = found
at_turn-empty (l ∷ ls) (suc lane) turn x found = at_turn-empty ls lane turn x found

-- and the others have theirs
pub at_turn-kept : {X : Type 0} (ls : List (List X)) (l : List X) (lane turn : ℕ) (x : X)
    → at_turn ls lane turn ≡ Some x → at_turn (ls ++ l ∷ []) lane turn ≡ Some x
at_turn-kept [] l lane turn x found = absurd (none-some x found)
at_turn-kept (k ∷ ls) l zero turn x found = found
at_turn-kept (k ∷ ls) l (suc lane) turn x found = at_turn-kept ls l lane turn x found
