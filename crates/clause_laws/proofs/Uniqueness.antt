-- A chain has one end, a clause at most one fault, and a trace one verdict.
use Rattle.std.proofs.Common.{◌≡◌, ◌≢◌, ℕ, ◌+◌, ◌⊎◌, inl, inr, List, [], ◌∷◌, length, Option, Some, None, Result, refl, sym, ◌∙◌, ap, subst}
use Rattle.std.proofs.lemmas.Bool.{cases_order}
use Rattle.clause_defs.specs.Literals.{Literal, negation}
use Rattle.clause_defs.specs.Clauses.{Lits, Has, SameSet}
use Rattle.clause_defs.specs.Resolution.{Clashes, Step, NoClash, ManyClash}
use Rattle.clause_defs.specs.Traces.{Entry, stated_at, antecedents_at, index_at}
use Rattle.clause_defs.specs.TraceClauses.{antecedent_lits}
use Rattle.clause_defs.specs.Verdicts.{EndsAt, ChainEnds, ChainFault, derived_fault_of, DerivedFault, FaultWith, ClauseFault, AllRightBefore, FirstFault, EndsEmpty, VerdictOf}
use Rattle.clause_defs.specs.declared.verdict.ChainError.{ChainError}
use Rattle.clause_defs.specs.declared.verdict.Verdict.{Verdict}
use Rattle.clause_defs.specs.declared.verdict.Verdict.TheVariants.{Refutes, NotOriginal, Chain, TooWide, NotEmptyEnd}
use Rattle.clause_laws.proofs.ClauseLemmas.{same_refl}

-- which literals clash is told by the running clause as a set
clashes_same : (r q c : Lits) (l : Literal) → SameSet r q → Clashes r c l → Clashes q c l
clashes_same r q c l same h = ((same l).0 h.0, h.1)

-- what is left of two sets at one pivot
resolvent_within : (r q c : Lits) (p o l : Literal) → SameSet r q → p ≡ o
    → (Has r l × (l ≢ p)) ⊎ (Has c l × (l ≢ negation p)) → (Has q l × (l ≢ o)) ⊎ (Has c l × (l ≢ negation o))
resolvent_within r q c p o l same e (inl h) = inl ((same l).0 h.0, λ k. h.1 (k ∙ sym e))
resolvent_within r q c p o l same e (inr h) = inr (h.0, λ k. h.1 (k ∙ sym (ap negation e)))

-- a step has one result as a set
pub step_same : (r q c s d : Lits) → SameSet r q → Step r c s → Step q c d → SameSet s d
step_same r q c s d same step other =
    let e : step.pivot ≡ other.pivot = other.only step.pivot (clashes_same r q c step.pivot same step.clashes) in
    λ l. (
      λ h. (other.resolvent l).1 (resolvent_within r q c step.pivot other.pivot l same e ((step.resolvent l).0 h)),
      λ h. (step.resolvent l).1 (resolvent_within q r c other.pivot step.pivot l (λ x. ((same x).1, (same x).0)) (sym e) ((other.resolvent l).0 h)),
    )

-- a set against which no literal clashes is none against which several do
none_against_several : (r q c : Lits) → SameSet r q → NoClash r c → ManyClash q c → ⊥
none_against_several r q c same none several = none several.0 (clashes_same q r c several.0 (λ x. ((same x).1, (same x).0)) several.3)

-- a set against which no literal clashes makes no step
none_against_step : (r q c s : Lits) → SameSet r q → NoClash r c → Step q c s → ⊥
none_against_step r q c s same none step = none step.pivot (clashes_same q r c step.pivot (λ x. ((same x).1, (same x).0)) step.clashes)

-- a set against which several literals clash makes no step
several_against_step : (r q c s : Lits) → SameSet r q → ManyClash r c → Step q c s → ⊥
several_against_step r q c s same several step =
    several.2 (step.only several.0 (clashes_same r q c several.0 same several.3)
    ∙ sym (step.only several.1 (clashes_same r q c several.1 same several.4)))

-- a clause is the same set as one that is the same set as it
back : (r q : Lits) → SameSet r q → SameSet q r
back r q same x = ((same x).1, (same x).0)

-- where a chain stops is determined by the set
at_end_same : (index : ℕ) (stated : Option Lits) (r q : Lits) (e d : Result (Unit {0}) ChainError)
    → SameSet r q → EndsAt index stated r e → EndsAt index stated q d → e ≡ d
at_end_same index None r q e d same h k = h ∙ sym k
at_end_same index (Some stated) r q e d same (inl h) (inl k) = h.1 ∙ sym k.1
at_end_same index (Some stated) r q e d same (inl h) (inr k) =
    absurd (k.0 (λ x. (λ i. (h.0 x).0 ((same x).1 i), λ i. (same x).0 ((h.0 x).1 i))))
at_end_same index (Some stated) r q e d same (inr h) (inl k) =
    absurd (h.0 (λ x. (λ i. (k.0 x).0 ((same x).0 i), λ i. (same x).1 ((k.0 x).1 i))))
at_end_same index (Some stated) r q e d same (inr h) (inr k) = h.1 ∙ sym k.1

-- how a chain goes on from a set is determined by the set
end_same : (index : ℕ) (stated : Option Lits) (step : ℕ) (r q : Lits) (cs : List Lits) (e d : Result (Unit {0}) ChainError)
    → SameSet r q → ChainEnds index stated step r cs e → ChainEnds index stated step q cs d → e ≡ d
end_same index stated step r q [] e d same h k = at_end_same index stated r q e d same h k
end_same index stated step r q (c ∷ cs) e d same (inl h) (inl k) = h.1 ∙ sym k.1
end_same index stated step r q (c ∷ cs) e d same (inl h) (inr (inl k)) = absurd (none_against_several r q c same h.0 k.0)
end_same index stated step r q (c ∷ cs) e d same (inl h) (inr (inr k)) = absurd (none_against_step r q c k.0 same h.0 k.1)
end_same index stated step r q (c ∷ cs) e d same (inr (inl h)) (inl k) = absurd (none_against_several q r c (back r q same) k.0 h.0)
end_same index stated step r q (c ∷ cs) e d same (inr (inl h)) (inr (inl k)) = h.1 ∙ sym k.1
end_same index stated step r q (c ∷ cs) e d same (inr (inl h)) (inr (inr k)) = absurd (several_against_step r q c k.0 same h.0 k.1)
end_same index stated step r q (c ∷ cs) e d same (inr (inr h)) (inl k) = absurd (none_against_step q r c h.0 (back r q same) k.0 h.1)
end_same index stated step r q (c ∷ cs) e d same (inr (inr h)) (inr (inl k)) = absurd (several_against_step q r c h.0 (back r q same) k.0 h.1)
end_same index stated step r q (c ∷ cs) e d same (inr (inr h)) (inr (inr k)) =
    end_same index stated (step + 1) h.0 k.0 cs e d (step_same r q c h.0 k.0 same h.1 k.1) h.2 k.2

-- the chain of a clause ends in one way
pub chain_end_unique : (index : ℕ) (stated : Option Lits) (cs : List Lits) (e d : Result (Unit {0}) ChainError)
    → ChainFault index stated cs e → ChainFault index stated cs d → e ≡ d
chain_end_unique index stated [] e d h k = absurd h
chain_end_unique index stated (r ∷ cs) e d h k = end_same index stated 1 r r cs e d (same_refl r) h k

-- a derived clause has at most one fault
derived_unique : (t : List Entry) (w k : ℕ) (o : Option (List Lits)) (x y : Option Verdict)
    → DerivedFault t w k o x → DerivedFault t w k o y → x ≡ y
derived_unique t w k None x y h i = h ∙ sym i
derived_unique t w k (Some cs) x y h i =
    h.2 ∙ ap (derived_fault_of t w k (stated_at t k)) (chain_end_unique (index_at t k) (stated_at t k) cs h.0 i.0 h.1 i.1) ∙ sym i.2

-- a clause has at most one fault
fault_unique : (f : List Lits) (t : List Entry) (w k : ℕ) (ps : List ℕ) (x y : Option Verdict)
    → FaultWith f t w k ps x → FaultWith f t w k ps y → x ≡ y
fault_unique f t w k [] x y (inl h) (inl i) = h.1 ∙ sym i.1
fault_unique f t w k [] x y (inl h) (inr i) = absurd (i.0 h.0)
fault_unique f t w k [] x y (inr h) (inl i) = absurd (h.0 i.0)
fault_unique f t w k [] x y (inr h) (inr i) = h.1 ∙ sym i.1
fault_unique f t w k (p ∷ ps) x y h i = derived_unique t w k (antecedent_lits t k) x y h i

module _ (f : List Lits) (t : List Entry) (w : ℕ) where
  -- a faulty clause isn't right
  pub right_against_fault : (k : ℕ) (v : Verdict) → ClauseFault f t w k None → ClauseFault f t w k (Some v) → ⊥
  right_against_fault k v h i = let e : None ≡ Some v = fault_unique f t w k (antecedents_at t k) None (Some v) h i in cc

  -- the first fault of a trace is one
  first_unique : (v u : Verdict) → FirstFault f t w v → FirstFault f t w u → v ≡ u
  first_unique v u h i =
      elim (cases_order h.0 i.0) [
        | inl e ↦ let both : Some v ≡ Some u = fault_unique f t w i.0 (antecedents_at t i.0) (Some v) (Some u) (subst (λ n. ClauseFault f t w n (Some v)) e h.3) i.3 in cc
        | inr (inl below) ↦ absurd (right_against_fault h.0 v (i.2 h.0 below) h.3)
        | inr (inr above) ↦ absurd (right_against_fault i.0 u (h.2 i.0 above) i.3)
      ]

  -- a verdict is one of the two ends of a faultless trace, or its first fault
  abbrev Kinds : Verdict → Type 0
  Kinds v =
      (AllRightBefore f t w (length t) × EndsEmpty t × (v ≡ Refutes))
      ⊎ ((AllRightBefore f t w (length t) × (EndsEmpty t → ⊥) × (v ≡ NotEmptyEnd)) ⊎ FirstFault f t w v)

  -- a verdict is a first fault, or that no clause has one
  kinds : (v : Verdict) → VerdictOf f t w v → Kinds v
  kinds Refutes h = inl (h.0, h.1, refl)
  kinds NotEmptyEnd h = inr (inl (h.0, h.1, refl))
  kinds (NotOriginal i) h = inr (inr h)
  kinds (Chain e) h = inr (inr h)
  kinds (TooWide i) h = inr (inr h)

  -- a trace has no first fault where no clause has one
  first_against_all : (v : Verdict) → AllRightBefore f t w (length t) → FirstFault f t w v → ⊥
  first_against_all v right first = right_against_fault first.0 v (right first.0 first.1) first.3

  -- two verdicts of a trace are of the same kind, and so the same
  kinds_unique : (v u : Verdict) → Kinds v → Kinds u → v ≡ u
  kinds_unique v u (inl h) (inl i) = h.2 ∙ sym i.2
  kinds_unique v u (inl h) (inr (inl i)) = absurd (i.1 h.1)
  kinds_unique v u (inl h) (inr (inr i)) = absurd (first_against_all u h.0 i)
  kinds_unique v u (inr (inl h)) (inl i) = absurd (h.1 i.1)
  kinds_unique v u (inr (inl h)) (inr (inl i)) = h.2 ∙ sym i.2
  kinds_unique v u (inr (inl h)) (inr (inr i)) = absurd (first_against_all u h.0 i)
  kinds_unique v u (inr (inr h)) (inl i) = absurd (first_against_all v i.0 h)
  kinds_unique v u (inr (inr h)) (inr (inl i)) = absurd (first_against_all v i.0 h)
  kinds_unique v u (inr (inr h)) (inr (inr i)) = first_unique v u h i

  -- a trace has one verdict
  pub verdict_unique : (v u : Verdict) → VerdictOf f t w v → VerdictOf f t w u → v ≡ u
  verdict_unique v u h i = kinds_unique v u (kinds v h) (kinds u i)
