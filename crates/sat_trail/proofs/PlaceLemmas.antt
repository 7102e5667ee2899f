-- Places of a list that has one literal more, or is cut.
use Rattle.std.proofs.Common.{◌≡◌, ◌⊎◌, ℕ, zero, suc, ◌<◌, ◌≤◌, [], ◌∷◌, ◌++◌, length, get_or, take, inl, inr, refl, sym, ◌∙◌, subst, arith, length-take-le, get_or-take, take_all}
use Rattle.std.proofs.lemmas.Bool.{cases_lt}
use Rattle.std.proofs.lemmas.List.{length_push, get_or_push, get_or_append_left, take-append-le}
use Rattle.clause_defs.specs.Literals.{Literal}
use Rattle.clause_defs.specs.Clauses.{Lits, Has}
use Rattle.trail_defs.specs.Assignments.{IsAt}

has_get_or : (t : Lits) (i : ℕ) (d : Literal) → i < length t → Has t (get_or t i d)
has_get_or [] i d lt = absurd (omega arith)
has_get_or (l ∷ ls) zero d lt = inl refl
has_get_or (l ∷ ls) (suc i) d lt = inr (has_get_or ls i d (omega arith))

-- what stands at a place is in the list
pub at_has : (t : Lits) (i : ℕ) (l : Literal) → IsAt t i l → Has t l
at_has t i l at = subst (Has t) (sym at.read) (has_get_or t i l at.within)

-- a place of a list that grew at its end is an old one, or the new literal's
pub at_cases : (t : Lits) (l : Literal) (i : ℕ) (m : Literal) → IsAt (t ++ l ∷ []) i m → IsAt t i m ⊎ ((i ≡ length t) × (m ≡ l))
at_cases t l i m at = elim (cases_lt i (length t)) [
  | inl lt ↦ inl (record { within = lt; read = at.read ∙ get_or_append_left t (l ∷ []) m i lt })
  | inr past ↦
      let len = length_push t l in
      let lt = at.within in
      let e : i ≡ length t = omega arith in
      inr (e, at.read ∙ get_or_push t l m i (sym e))
]

-- the literals before an old place are as before
pub take_grown : (t : Lits) (l : Literal) (i : ℕ) → i ≤ length t → take i (t ++ l ∷ []) ≡ take i t
take_grown t l i le = take-append-le i t (l ∷ []) le

pub take_before_new : (t : Lits) (l : Literal) (i : ℕ) → i ≡ length t → take i (t ++ l ∷ []) ≡ t
take_before_new t l i e = take_grown t l i (omega arith) ∙ take_all i t (omega arith)

-- a place of the first n literals is one of all
pub at_cut : (t : Lits) (n i : ℕ) (l : Literal) → n ≤ length t → IsAt (take n t) i l → IsAt t i l × (i < n)
at_cut t n i l le at =
    let len = length-take-le n t le in
    let lt = at.within in
    let low : i < n = omega arith in
    (record { within = omega arith; read = at.read ∙ get_or-take n t i l low }, low)
