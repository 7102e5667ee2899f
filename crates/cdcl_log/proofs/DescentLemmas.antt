-- Deciding variables until each has a value.
use Rattle.std.proofs.Common.{◌≡◌, ◌⊎◌, ℕ, ◌+◌, ◌-◌, ◌<◌, ◌≤◌, Bool, true, [], ◌∷◌, ◌++◌, length, Option, Some, None, IfSome, IfNone, inl, inr, refl, sym, ap, ◌∙◌, subst, arith, length-append}
use Rattle.std.proofs.lemmas.Bool.{cases_eq}
use Rattle.clause_defs.specs.Literals.{Literal}
use Rattle.clause_defs.specs.Clauses.{Lits, Has}
use Rattle.trail_defs.specs.Assignments.{IsFree}
use Rattle.trail_defs.specs.Trails.{Assigned, IsTrail, IsGrown, HasSameClauses}
use Rattle.assignment.proofs.ApartLemmas.{few_literals}
use Rattle.cdcl_log.specs.Steps.{IsBest}

-- a trail has the clauses that it has
pub clauses_kept : (t : Assigned) → HasSameClauses t t
clauses_kept t = record { variables = refl; originals = refl; clauses = refl; words = refl }

pub clauses_through : (t s r : Assigned) → HasSameClauses t s → HasSameClauses s r → HasSameClauses t r
clauses_through t s r first second = record {
  variables = second.variables ∙ first.variables;
  originals = second.originals ∙ first.originals;
  clauses = second.clauses ∙ first.clauses;
  words = second.words ∙ first.words;
}

-- what holds where there is none, if it holds anyway
pub if_none : (o : Option ℕ) (P : Type 0) → P → IfNone o P
if_none None P p = p
if_none (Some n) P p = tt

-- a variable with a value leaves the best one
pub best_kept : (variables : ℕ) (t : Lits) (v : ℕ) (best : Option ℕ) (sign : Bool) → IsBest variables t v best → Has t (record { variable = v; positive = sign })
    → IsBest variables t (v + 1) best
best_kept variables t v None sign h has = record {
  low = tt;
  high = tt;
  free = tt;
  none = λ w low lt. elim (cases_eq w v) [
    | inl e ↦ (record { variable = v; positive = sign }, has, sym e)
    | inr ne ↦ h.none w low (omega arith)
  ];
}
best_kept variables t v (Some b) sign h has = record { low = h.low; high = h.high; free = h.free; none = tt }

-- of one without a value and the best one, either is the best
pub best_found : (variables : ℕ) (t : Lits) (v : ℕ) (best : Option ℕ) (r : ℕ) → IsBest variables t v best → 1 ≤ v → v ≤ variables
    → IsFree t (record { variable = v; positive = true }) → (best ≡ Some r) ⊎ (r ≡ v) → IsBest variables t (v + 1) (Some r)
best_found variables t v best r h low high free (inl e) = record {
  low = subst (λ (o : Option ℕ). IfSome o (λ b. 1 ≤ b)) e h.low;
  high = subst (λ (o : Option ℕ). IfSome o (λ b. b ≤ variables)) e h.high;
  free = subst (λ (o : Option ℕ). IfSome o (λ b. IsFree t (record { variable = b; positive = true }))) e h.free;
  none = tt;
}
best_found variables t v best r h low high free (inr e) = record {
  low = omega arith;
  high = omega arith;
  free = subst (λ b. IsFree t (record { variable = b; positive = true })) (sym e) free;
  none = tt;
}

-- one more literal leaves fewer variables
pub fewer_left : (variables : ℕ) (t s r : Assigned) (l : Literal) → variables ≡ t.variables → HasSameClauses t s → IsGrown t s → IsTrail s → r.lits ≡ s.lits ++ l ∷ []
    → variables + 1 - length r.lits < variables + 1 - length t.lits
fewer_left variables t s r l over same grown known lits =
    let few = few_literals s.variables s.lits known.assignment in
    let kept = same.variables in
    let first = ap (λ (ls : Lits). length ls) grown.lits in
    let second = ap (λ (ls : Lits). length ls) lits in
    omega (arith, length-append t.lits grown.more, length-append s.lits (l ∷ []))
