-- Parts of a list of literals, as the list grows.
use Rattle.std.proofs.Common.{◌≡◌, ℕ, zero, suc, ◌+◌, ◌≤◌, List, [], ◌∷◌, ◌++◌, length, set, take, drop, replicate, Result, Ok, Err, is_ok, IsOk, if◌then◌else◌, refl, ◌∙◌, ap, arith}
use Rattle.std.proofs.lemmas.List.{map-set}
use Rattle.clause_defs.specs.Clauses.{Lits}
use Rattle.chain_check.specs.declared.computed.Span.{Span}
use Rattle.chain_check.specs.ByPlace.{part_of, parts_of, no_part, EachEndsBy}

-- what holds where something is Ok, where it is
pub after_ok : {X E Y : Type 0} (r : Result X E) (a b o : Y) → IsOk r → o ≡ (if is_ok r then a else b) → o ≡ a
after_ok (Ok x) a b o k e = e
after_ok (Err x) a b o k e = absurd cc

-- the beginning of a list is the same with more behind it
take_front : {X : Type 0} (xs ys : List X) (n : ℕ) → n ≤ length xs → take n (xs ++ ys) ≡ take n xs
take_front xs ys zero le = refl
take_front [] ys (suc n) le = absurd (omega arith)
take_front (x ∷ xs) ys (suc n) le = ap (λ zs. x ∷ zs) (take_front xs ys n (omega arith))

-- a part of a list is the same with more behind the list
part_kept : {X : Type 0} (xs ys : List X) (k n : ℕ) → k + n ≤ length xs → take n (drop k (xs ++ ys)) ≡ take n (drop k xs)
part_kept xs ys zero n le = take_front xs ys n (omega arith)
part_kept [] ys (suc k) n le = absurd (omega arith)
part_kept (x ∷ xs) ys (suc k) n le = part_kept xs ys k n (omega arith)

-- what was put behind a list is the part that begins at its end
part_new : {X : Type 0} (xs ys : List X) → take (length ys) (drop (length xs) (xs ++ ys)) ≡ ys
part_new [] ys = whole ys
  where
    -- a list is its own beginning of its length
    whole : {X : Type 0} (ys : List X) → take (length ys) ys ≡ ys
    whole [] = refl
    whole (y ∷ ys) = ap (λ zs. y ∷ zs) (whole ys)
part_new (x ∷ xs) ys = part_new xs ys

-- parts stay what they were as the list grows
pub parts_kept : (lits c : Lits) (spans : List Span) → EachEndsBy (length lits) spans → parts_of (lits ++ c) spans ≡ parts_of lits spans
parts_kept lits c [] ends = refl
parts_kept lits c (s ∷ ss) ends =
    let one = part_kept lits c s.start s.len (ends 0) in
    let rest = parts_kept lits c ss (λ p. ends (suc p)) in cc

-- a new part at the end of the list
pub parts_put : (lits c out : Lits) (spans : List Span) (p start : ℕ) → EachEndsBy (length lits) spans → out ≡ lits ++ c → start ≡ length lits
    → parts_of out (set spans p (record { start = start; len = length c })) ≡ set (parts_of lits spans) p c
parts_put lits c out spans p start ends e at =
    ap (λ o. parts_of o (set spans p (record { start = start; len = length c }))) e
    ∙ map-set (part_of (lits ++ c)) spans p (record { start = start; len = length c })
    ∙ ap (λ ps. set ps p (part_of (lits ++ c) (record { start = start; len = length c }))) (parts_kept lits c spans ends)
    ∙ ap (λ n. set (parts_of lits spans) p (take (length c) (drop n (lits ++ c)))) at
    ∙ ap (set (parts_of lits spans) p) (part_new lits c)

-- parts without literals
pub parts_none : (lits : Lits) (spans : List Span) (n : ℕ) → spans ≡ replicate n no_part → parts_of lits spans ≡ replicate n []
parts_none lits spans n e = ap (parts_of lits) e ∙ each n
  where
    each : (n : ℕ) → parts_of lits (replicate n no_part) ≡ replicate n []
    each zero = refl
    each (suc n) = ap (λ ps. [] ∷ ps) (each n)

-- nothing is left of an empty list
drop_none : {X : Type 0} (n : ℕ) → drop {A = X} n [] ≡ []
drop_none zero = refl
drop_none (suc n) = refl

-- an empty list begins with nothing
take_none : {X : Type 0} (n : ℕ) → take {A = X} n [] ≡ []
take_none zero = refl
take_none (suc n) = refl

-- parts of an empty list
pub parts_empty : (lits : Lits) (spans : List Span) → lits ≡ [] → parts_of lits spans ≡ replicate (length spans) []
parts_empty lits spans e = ap (λ ls. parts_of ls spans) e ∙ each spans
  where
    each : (spans : List Span) → parts_of [] spans ≡ replicate (length spans) []
    each [] = refl
    each (s ∷ ss) = let one : part_of [] s ≡ [] = ap (take s.len) (drop_none s.start) ∙ take_none s.len in let rest = each ss in cc
