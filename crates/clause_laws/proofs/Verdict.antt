-- Each trace shows something of each list of clauses.
use Rattle.std.proofs.Common.{◌≡◌, ℕ, zero, suc, ◌+◌, ◌-◌, ◌<◌, ◌≤◌, nat_lt, ◌⊎◌, inl, inr, Bool, true, false, if◌then◌else◌, List, [], ◌∷◌, length, map, Option, Some, None, Result, Ok, Err, refl, sym, subst, arith}
use Rattle.std.proofs.lemmas.Bool.{cases_order}
use Rattle.clause_defs.specs.Clauses.{Lits}
use Rattle.clause_defs.specs.Traces.{Entry, stated_at, lits_at, antecedents_at, index_at}
use Rattle.clause_defs.specs.TraceClauses.{LitsOf, antecedent_lits, given_with, all_given, computed_before}
use Rattle.clause_defs.specs.Verdicts.{fault_of, compact_fault_of, derived_fault_of, DerivedFault, FaultWith, ClauseFault, AllRightBefore, FirstFault, EndsEmpty, VerdictOf}
use Rattle.clause_defs.specs.declared.verdict.ChainError.{ChainError}
use Rattle.clause_defs.specs.declared.verdict.Verdict.{Verdict}
use Rattle.clause_defs.specs.declared.verdict.Verdict.TheVariants.{Refutes, NotOriginal, Chain, TooWide, NotEmptyEnd}
use Rattle.clause_laws.proofs.ClauseTests.{has_clause_cases}
use Rattle.clause_laws.proofs.ChainEnd.{chain_end_exists}

-- a clause with antecedents has a fault or none
derived_exists : (t : List Entry) (w k : ℕ) (o : Option Lits) (os : Option (List Lits)) → (found : Option Verdict) × DerivedFault t w k (given_with o os) found
derived_exists t w k None os = (None, refl)
derived_exists t w k (Some r) None = (None, refl)
derived_exists t w k (Some r) (Some cs) =
    let end = chain_end_exists (index_at t k) (stated_at t k) r cs in
    (derived_fault_of t w k (stated_at t k) end.0, (end.0, end.1, refl))

-- a clause has a fault or none
fault_with_exists : (f : List Lits) (t : List Entry) (w k : ℕ) (ps : List ℕ) → ps ≡ antecedents_at t k
    → (found : Option Verdict) × FaultWith f t w k ps found
fault_with_exists f t w k [] e =
    elim (has_clause_cases f (lits_at t k)) [
      | inl has ↦ (None, inl (has, refl))
      | inr lacks ↦ (Some (NotOriginal (index_at t k)), inr (lacks, refl))
    ]
fault_with_exists f t w k (p ∷ ps) e =
    let there = derived_exists t w k (LitsOf t p) (all_given (map (LitsOf t) ps)) in
    (there.0, subst (λ qs. DerivedFault t w k (all_given (map (LitsOf t) qs)) there.0) e there.1)

-- each clause has a fault, or none
pub fault_exists : (f : List Lits) (t : List Entry) (w k : ℕ) → (found : Option Verdict) × ClauseFault f t w k found
fault_exists f t w k = fault_with_exists f t w k (antecedents_at t k) refl

-- the fault of one clause is one of these
abbrev IsClauseFault : Verdict → Type 0
IsClauseFault v = ((i : ℕ) × (v ≡ NotOriginal i)) ⊎ (((e : ChainError) × (v ≡ Chain e)) ⊎ ((i : ℕ) × (v ≡ TooWide i)))

-- a fault of a clause with stated literals is one of a chain
stated_fault : (v : Verdict) (end : Result (Unit {0}) ChainError) → Some v ≡ fault_of end → IsClauseFault v
stated_fault v (Ok u) e = absurd cc
stated_fault v (Err x) e = inr (inl (x, cc))

-- too many computed literals are a fault of a clause
wide_fault : (b : Bool) (index : ℕ) (v : Verdict) → Some v ≡ (if b then Some (TooWide index) else None) → IsClauseFault v
wide_fault true index v e = inr (inr (index, cc))
wide_fault false index v e = absurd cc

-- a fault of a clause with the sign is one of a clause
compact_fault : (index literals w : ℕ) (v : Verdict) (end : Result (Unit {0}) ChainError) → Some v ≡ compact_fault_of index literals w end → IsClauseFault v
compact_fault index literals w v (Ok u) e = wide_fault (nat_lt w literals) index v e
compact_fault index literals w v (Err x) e = inr (inl (x, cc))

-- a fault of a derived clause is one of a clause
derived_fault : (t : List Entry) (w k : ℕ) (stated : Option Lits) (v : Verdict) (end : Result (Unit {0}) ChainError)
    → Some v ≡ derived_fault_of t w k stated end → IsClauseFault v
derived_fault t w k None v end e = compact_fault (index_at t k) (computed_before t (k + 1)) w v end e
derived_fault t w k (Some c) v end e = stated_fault v end e

-- a fault of a derived clause whose antecedents are given is one of a clause
given_fault : (t : List Entry) (w k : ℕ) (o : Option (List Lits)) (v : Verdict) → DerivedFault t w k o (Some v) → IsClauseFault v
given_fault t w k None v h = absurd cc
given_fault t w k (Some cs) v h = derived_fault t w k (stated_at t k) v h.0 h.2

-- the fault of a clause is one of those that a clause can have
clause_fault : (f : List Lits) (t : List Entry) (w k : ℕ) (ps : List ℕ) (v : Verdict) → FaultWith f t w k ps (Some v) → IsClauseFault v
clause_fault f t w k [] v (inl h) = absurd (let e = h.1 in cc)
clause_fault f t w k [] v (inr h) = inl (index_at t k, let e = h.1 in cc)
clause_fault f t w k (p ∷ ps) v h = given_fault t w k (antecedent_lits t k) v h

module _ (f : List Lits) (t : List Entry) (w : ℕ) where
  -- all clauses before place n are right, or there is a first faulty one
  abbrev Judged : ℕ → Type 0
  Judged n = AllRightBefore f t w n ⊎ ((v : Verdict) × FirstFault f t w v)

  -- one more right clause
  pub right_more : (n : ℕ) → AllRightBefore f t w n → ClauseFault f t w n None → AllRightBefore f t w (suc n)
  right_more n right here k lt = elim (cases_order k n) [
    | inl e ↦ subst (λ m. ClauseFault f t w m None) (sym e) here
    | inr other ↦ elim other [ inl below ↦ right k below | inr above ↦ absurd (omega arith) ]
  ]

  -- one more clause is right, or it is the first faulty one
  judged_more : (n : ℕ) → n < length t → AllRightBefore f t w n → (found : Option Verdict) → ClauseFault f t w n found → Judged (suc n)
  judged_more n within right None here = inl (right_more n right here)
  judged_more n within right (Some v) here = inr (v, (n, within, right, here))

  -- this is known for each place
  judged : (n : ℕ) → n ≤ length t → Judged n
  judged zero le = inl (λ k lt. absurd (omega arith))
  judged (suc n) le =
      elim (judged n (omega arith)) [
        | inr first ↦ inr first
        | inl right ↦ let here = fault_exists f t w n in judged_more n (omega arith) right here.0 here.1
      ]

  -- so the first fault is a verdict
  fault_verdict : (v : Verdict) → FirstFault f t w v → IsClauseFault v → VerdictOf f t w v
  fault_verdict v first (inl k) = subst (VerdictOf f t w) (sym k.1) (subst (FirstFault f t w) k.1 first)
  fault_verdict v first (inr (inl k)) = subst (VerdictOf f t w) (sym k.1) (subst (FirstFault f t w) k.1 first)
  fault_verdict v first (inr (inr k)) = subst (VerdictOf f t w) (sym k.1) (subst (FirstFault f t w) k.1 first)

  -- a first fault is the verdict
  pub verdict_of_first : (v : Verdict) → FirstFault f t w v → VerdictOf f t w v
  verdict_of_first v first = fault_verdict v first (clause_fault f t w first.0 (antecedents_at t first.0) v first.3)

  -- the last clause is empty or not
  empty_cases : (o : Option Lits) → (o ≡ Some []) ⊎ (o ≡ Some [] → ⊥)
  empty_cases None = inr (λ e. cc)
  empty_cases (Some []) = inl refl
  empty_cases (Some (l ∷ ls)) = inr (λ e. cc)

  -- a trace ends with the empty clause, or it doesn't
  ends_empty_cases : EndsEmpty t ⊎ (EndsEmpty t → ⊥)
  ends_empty_cases = elim (cases_order 0 (length t)) [
    | inl e ↦ inr (λ h. let some = h.0 in omega arith)
    | inr other ↦ elim other [
      | inl some ↦ elim (empty_cases (LitsOf t (length t - 1))) [ inl e ↦ inl (some, e) | inr n ↦ inr (λ h. n h.1) ]
      | inr none ↦ absurd (omega arith)
    ]
  ]

  -- each trace has a verdict
  pub verdict_exists : (v : Verdict) × VerdictOf f t w v
  verdict_exists =
      elim (judged (length t) (omega arith)) [
        | inr first ↦ (first.0, verdict_of_first first.0 first.1)
        | inl right ↦ elim ends_empty_cases [ inl ends ↦ (Refutes, (right, ends)) | inr other ↦ (NotEmptyEnd, (right, other)) ]
      ]
