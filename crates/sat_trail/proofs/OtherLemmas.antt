-- The two watches of a clause.
use Rattle.std.proofs.Common.{◌≡◌, ◌≢◌, ◌⊎◌, ℕ, ◌+◌, ◌-◌, ◌*◌, ◌/◌, ◌%◌, ◌<◌, List, get_or, Option, None, if◌then◌else◌, inl, inr, sym, ap, ◌∙◌, subst, arith, eq-eqb, ne_eqb}
use Rattle.std.proofs.lemmas.Bool.{cases_eq}
use Rattle.clause_defs.specs.Clauses.{Lits, Has}
use Rattle.sat_trail.specs.Watching.{other, IsBound}

other_cases : (w : ℕ) → ((w % 2 ≡ 0) × (other w ≡ w + 1)) ⊎ ((w % 2 ≡ 1) × (other w ≡ w - 1))
other_cases w = elim (cases_eq (w % 2) 0) [
  | inl e ↦ inl (e, ap (λ b. if b then w + 1 else w - 1) (eq-eqb (w % 2) 0 e))
  | inr ne ↦ inr (omega arith, ap (λ b. if b then w + 1 else w - 1) (ne_eqb (w % 2) 0 ne))
]

-- the even watch of a clause has the odd one behind it
pub other_of_even : (w : ℕ) → w ≡ 2 * (w / 2) → other w ≡ w + 1
other_of_even w even = elim (other_cases w) [
  | inl c ↦ c.1
  | inr c ↦ let a = c.0 in absurd (omega arith)
]

-- both are watches of one clause
pub other_half : (w : ℕ) → other w / 2 ≡ w / 2
other_half w = elim (other_cases w) [
  | inl c ↦ let a = c.0 in let b = c.1 in omega arith
  | inr c ↦ let a = c.0 in let b = c.1 in omega arith
]

pub other_other : (w : ℕ) → other (other w) ≡ w
other_other w = elim (other_cases w) [
  | inl c ↦ elim (other_cases (other w)) [
    | inl d ↦ let a = c.0 in let b = c.1 in let e = d.0 in let f = d.1 in omega arith
    | inr d ↦ let a = c.0 in let b = c.1 in let e = d.0 in let f = d.1 in omega arith
  ]
  | inr c ↦ elim (other_cases (other w)) [
    | inl d ↦ let a = c.0 in let b = c.1 in let e = d.0 in let f = d.1 in omega arith
    | inr d ↦ let a = c.0 in let b = c.1 in let e = d.0 in let f = d.1 in omega arith
  ]
]

pub other_ne : (w : ℕ) → other w ≢ w
other_ne w = elim (other_cases w) [
  | inl c ↦ λ e. let b = c.1 in absurd (omega arith)
  | inr c ↦ λ e. let a = c.0 in let b = c.1 in absurd (omega arith)
]

pub other_of_odd : (w : ℕ) → w ≡ 2 * (w / 2) → other (w + 1) ≡ w
other_of_odd w even = ap other (sym (other_of_even w even)) ∙ other_other w

-- a watch of a list that has two for each clause has its other there too
pub other_inside : (w n : ℕ) → w < 2 * n → other w < 2 * n
other_inside w n lt = elim (other_cases w) [
  | inl c ↦ let a = c.0 in let b = c.1 in omega arith
  | inr c ↦ let a = c.0 in let b = c.1 in omega arith
]

-- a clause is bound by both watches
pub bound_other : (clauses : List (Option Lits)) (loose : List ℕ) (w : ℕ) → IsBound clauses loose w → IsBound clauses loose (other w)
bound_other clauses loose w bound = record {
  live = subst (λ b. get_or clauses b None ≢ None) (sym (other_half w)) bound.live;
  tied = subst (λ b. Has loose (2 * b) → ⊥) (sym (other_half w)) bound.tied;
}
