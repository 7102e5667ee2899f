-- Literals and their negations.
use Rattle.std.proofs.Common.{◌≡◌, ◌≢◌, ℕ, ◌-◌, ◌⊎◌, inl, inr, Bool, true, false, not, if◌then◌else◌, List, Some, refl, ap, slice_get}
use Rattle.std.proofs.lemmas.Bool.{cases_eq}
use Rattle.clause_defs.specs.Literals.{Literal, negation}
use Rattle.clause_defs.specs.Clauses.{IsTrueUnder}

-- two signs are the same or not
sign_cases : (b d : Bool) → (b ≡ d) ⊎ (b ≢ d)
sign_cases true true = inl refl
sign_cases true false = inr (λ e. cc)
sign_cases false true = inr (λ e. cc)
sign_cases false false = inl refl

-- literals of the same variable and the same sign are the same
literal_by_parts : (l m : Literal) → l.variable ≡ m.variable → l.positive ≡ m.positive → l ≡ m
literal_by_parts l m e s = λ i. record { variable = e i; positive = s i }

-- two literals are the same or not
pub literal_cases : (l m : Literal) → (l ≡ m) ⊎ (l ≢ m)
literal_cases l m =
    elim (cases_eq l.variable m.variable) [
      | inl e ↦ elim (sign_cases l.positive m.positive) [ inl s ↦ inl (literal_by_parts l m e s) | inr s ↦ inr (λ h. s (ap (λ (x : Literal). x.positive) h)) ]
      | inr e ↦ inr (λ h. e (ap (λ (x : Literal). x.variable) h))
    ]

-- the other of the other sign is the sign
not-not : (b : Bool) → not (not b) ≡ b
not-not true = refl
not-not false = refl

-- the negation of a literal's negation is the literal
pub negation-negation : (l : Literal) → negation (negation l) ≡ l
negation-negation l = literal_by_parts (negation (negation l)) l refl (not-not l.positive)

-- no assignment gives a variable both bits
opposite_values : (a : List ℕ) (v : ℕ) (b : Bool) → slice_get a (v - 1) ≡ Some (if b then 1 else 0)
    → slice_get a (v - 1) ≡ Some (if not b then 1 else 0) → ⊥
opposite_values a v true h k = cc
opposite_values a v false h k = cc

-- a literal and its negation are never both true
pub not_both : (a : List ℕ) (l : Literal) → IsTrueUnder a l → IsTrueUnder a (negation l) → ⊥
not_both a l h k = opposite_values a l.variable l.positive h k
