-- What follows by the chain rule is true wherever the antecedents are.
use Rattle.std.proofs.Common.{◌≡◌, ◌≢◌, ℕ, zero, suc, ◌+◌, ◌-◌, ◌<◌, inl, inr, List, [], ◌∷◌, length, Option, Some, None, Result, Ok, Err, refl, sym, ◌∙◌, ap, subst, arith}
use Rattle.clause_defs.specs.Literals.{negation}
use Rattle.clause_defs.specs.Clauses.{Lits, Has, SameSet, HasClause, IsTrueUnder, Satisfies, Unsat, clause_of}
use Rattle.clause_defs.specs.Resolution.{Step, Chain, Resolves}
use Rattle.clause_defs.specs.Traces.{Entry, stated_at, lits_at, antecedents_at, index_at, literals_in, AntecedentsAreEarlier}
use Rattle.clause_defs.specs.TraceClauses.{LitsOf, antecedent_lits, given_by, computed_before}
use Rattle.clause_defs.specs.Verdicts.{EndsAt, ChainEnds, ChainFault, fault_of, compact_fault_of, derived_fault_of, DerivedFault, FaultWith, ClauseFault, AllRightBefore, EndsEmpty}
use Rattle.clause_defs.specs.declared.verdict.ChainError.{ChainError}
use Rattle.clause_laws.proofs.LiteralLemmas.{literal_cases, not_both}
use Rattle.clause_laws.proofs.ClauseLemmas.{same_refl, same_sym}
use Rattle.clause_laws.proofs.ClauseOf.{IsOrdered-clause_of, SameSet-clause_of}
use Rattle.clause_laws.proofs.Resolvents.{resolves_same, resolves-chain_of}
use Rattle.clause_laws.proofs.TraceLits.{lits_stated, lits_given, given_all}

-- truth is that of the set
satisfies_same : (a : List ℕ) (c d : Lits) → SameSet c d → Satisfies a c → Satisfies a d
satisfies_same a c d e h = (h.0, (e h.0).0 h.1, h.2)

-- the result of a step is true wherever both of its clauses are
step_keeps : (a : List ℕ) (r c s : Lits) → Step r c s → Satisfies a r → Satisfies a c → Satisfies a s
step_keeps a r c s step h k =
    elim (literal_cases k.0 (negation step.pivot)) [
      | inl e ↦ (h.0, (step.resolvent h.0).1 (inl (h.1, λ same. not_both a step.pivot (subst (IsTrueUnder a) same h.2) (subst (IsTrueUnder a) e k.2))), h.2)
      | inr other ↦ (k.0, (step.resolvent k.0).1 (inr (k.1, other)), k.2)
    ]

-- so is the result of a chain
chain_keeps : (a : List ℕ) (r : Lits) (cs : List Lits) (s : Lits) → Chain r cs s → Satisfies a r
    → ((c : Lits) → Has cs c → Satisfies a c) → Satisfies a s
chain_keeps a r [] s same h all = satisfies_same a r s same h
chain_keeps a r (c ∷ cs) s chain h all =
    chain_keeps a chain.0 cs s chain.2 (step_keeps a r c chain.0 chain.1 h (all c (inl refl))) (λ d i. all d (inr i))

-- an assignment that satisfies the clauses satisfies what follows from them
resolves_keeps : (a : List ℕ) (cs : List Lits) (s : Lits) → Resolves cs s
    → ((c : Lits) → Has cs c → Satisfies a c) → Satisfies a s
resolves_keeps a [] s h all = absurd h
resolves_keeps a (r ∷ cs) s h all = chain_keeps a r cs s h (all r (inl refl)) (λ c i. all c (inr i))

-- ---- a clause without a fault

-- a chain without a faulty step comes to a clause, which is the stated one if there is one
abbrev ComesTo : Option Lits → Lits → Type 0
ComesTo None s = Unit {0}
ComesTo (Some stated) s = SameSet s stated

-- a chain that ends without a fault came to what is stated
at_end : (index : ℕ) (stated : Option Lits) (r : Lits) → EndsAt index stated r (Ok tt) → ComesTo stated r
at_end index None r h = tt
at_end index (Some stated) r (inl h) = h.0
at_end index (Some stated) r (inr h) = absurd (let e = h.1 in cc)

-- a chain without a fault is one of the rule, and comes to what is stated
chain_from_end : (index : ℕ) (stated : Option Lits) (step : ℕ) (r : Lits) (cs : List Lits)
    → ChainEnds index stated step r cs (Ok tt) → (s : Lits) × Chain r cs s × ComesTo stated s
chain_from_end index stated step r [] h = (r, same_refl r, at_end index stated r h)
chain_from_end index stated step r (c ∷ cs) (inl h) = absurd (let e = h.1 in cc)
chain_from_end index stated step r (c ∷ cs) (inr (inl h)) = absurd (let e = h.1 in cc)
chain_from_end index stated step r (c ∷ cs) (inr (inr h)) =
    let rest = chain_from_end index stated (step + 1) h.0 cs h.2 in (rest.0, (h.0, h.1, rest.1), rest.2)

-- where a chain has no fault, what is stated follows from its clauses
resolves_from_end : (index : ℕ) (stated : Option Lits) (cs : List Lits)
    → ChainFault index stated cs (Ok tt) → (s : Lits) × Resolves cs s × ComesTo stated s
resolves_from_end index stated [] h = absurd h
resolves_from_end index stated (r ∷ cs) h = chain_from_end index stated 1 r cs h

-- a clause with stated literals has no fault where its chain has none
no_stated_fault : (end : Result (Unit {0}) ChainError) → None ≡ fault_of end → end ≡ Ok tt
no_stated_fault (Ok tt) e = refl
no_stated_fault (Err x) e = absurd cc

-- a clause with the sign has no fault only where its chain has none
no_compact_fault : (index literals w : ℕ) (end : Result (Unit {0}) ChainError) → None ≡ compact_fault_of index literals w end → end ≡ Ok tt
no_compact_fault index literals w (Ok tt) e = refl
no_compact_fault index literals w (Err x) e = absurd cc

-- a clause without a fault has a chain that ends well
pub no_fault : (t : List Entry) (w k : ℕ) (stated : Option Lits) (end : Result (Unit {0}) ChainError)
    → None ≡ derived_fault_of t w k stated end → end ≡ Ok tt
no_fault t w k None end e = no_compact_fault (index_at t k) (computed_before t (k + 1)) w end e
no_fault t w k (Some stated) end e = no_stated_fault end e

-- a chain of given clauses that ends well
pub derived_end : (t : List Entry) (w k : ℕ) (o : Option (List Lits)) (cs : List Lits) → o ≡ Some cs
    → DerivedFault t w k o None → ChainFault (index_at t k) (stated_at t k) cs (Ok tt)
derived_end t w k None cs e h = absurd cc
derived_end t w k (Some ds) cs e h =
    let same : ds ≡ cs = cc in
    subst (λ bs. ChainFault (index_at t k) (stated_at t k) bs (Ok tt)) same
    (subst (ChainFault (index_at t k) (stated_at t k) ds) (no_fault t w k (stated_at t k) h.0 h.2) h.1)

-- a derived clause without a fault has a chain without a fault
pub derived_with : (f : List Lits) (t : List Entry) (w k : ℕ) (ps : List ℕ) (cs : List Lits) → ps ≢ [] → antecedent_lits t k ≡ Some cs
    → FaultWith f t w k ps None → ChainFault (index_at t k) (stated_at t k) cs (Ok tt)
derived_with f t w k [] cs ne e h = absurd (ne refl)
derived_with f t w k (p ∷ ps) cs ne e h = derived_end t w k (antecedent_lits t k) cs e h

-- its clause is the stated one, or the one that the chain comes to
lits_from_end : (t : List Entry) (k : ℕ) (cs : List Lits) (stated : Option Lits) → stated_at t k ≡ stated → AntecedentsAreEarlier t
    → antecedent_lits t k ≡ Some cs → ((s : Lits) × Resolves cs s × ComesTo stated s) → (c : Lits) × (LitsOf t k ≡ Some c) × Resolves cs c
lits_from_end t k cs (Some c) e earlier given h = (c, lits_stated t k c e, resolves_same cs h.0 c h.2 h.1)
lits_from_end t k cs None e earlier given h =
    let s = clause_of h.0 in
    let chain = resolves_same cs h.0 s (same_sym s h.0 (SameSet-clause_of h.0)) h.1 in (
      s,
      lits_given t k earlier e ∙ ap given_by given ∙ resolves-chain_of cs s chain (IsOrdered-clause_of h.0),
      chain,
    )

-- a clause with antecedents that has no fault follows from them
pub resolves_with : (f : List Lits) (t : List Entry) (w k : ℕ) (cs : List Lits) → AntecedentsAreEarlier t
    → ClauseFault f t w k None → antecedents_at t k ≢ [] → antecedent_lits t k ≡ Some cs
    → (c : Lits) × (LitsOf t k ≡ Some c) × Resolves cs c
resolves_with f t w k cs earlier right ne given =
    lits_from_end t k cs (stated_at t k) refl earlier given
    (resolves_from_end (index_at t k) (stated_at t k) cs (derived_with f t w k (antecedents_at t k) cs ne given right))

-- a clause without antecedents that has no fault is in the list
pub original_with : (f : List Lits) (t : List Entry) (w k : ℕ) (ps : List ℕ)
    → FaultWith f t w k ps None → ps ≡ [] → HasClause f (lits_at t k)
original_with f t w k [] (inl h) e = h.0
original_with f t w k [] (inr h) e = absurd (let n = h.1 in cc)
original_with f t w k (p ∷ ps) h e = absurd cc

-- ---- a trace without a fault

module _ (f : List Lits) (t : List Entry) (w : ℕ) (earlier : AntecedentsAreEarlier t) where
  -- clause k is there, and it has this property
  abbrev Keeps : (Lits → Type 0) → ℕ → Type 0
  Keeps P k = (c : Lits) × (LitsOf t k ≡ Some c) × P c

  -- a property that steps keep and that originals have, all clauses of a faultless trace have
  module _ (P : Lits → Type 0) (chain : (cs : List Lits) (s : Lits) → Resolves cs s → ((c : Lits) → Has cs c → P c) → P s)
      (original : (k : ℕ) → HasClause f (lits_at t k) → antecedents_at t k ≡ [] → Keeps P k) where
    -- what holds of the clauses that are given holds of a clause without a fault, original or derived
    kept_with : (k : ℕ) (ps : List ℕ) → ps ≡ antecedents_at t k → ClauseFault f t w k None
        → ((p : ℕ) → Has (antecedents_at t k) p → Keeps P p) → Keeps P k
    kept_with k [] e right before = original k (original_with f t w k (antecedents_at t k) right (sym e)) (sym e)
    kept_with k (p ∷ ps) e right before =
        let given = given_all (LitsOf t) P (antecedents_at t k) before in
        let own = resolves_with f t w k given.0 earlier right (λ none. let both : p ∷ ps ≡ [] = e ∙ none in cc) given.1 in
        (own.0, own.1, chain given.0 own.0 own.2 given.2)

    -- what holds of originals and of what follows holds of all clauses before a bound
    all_keep : (n : ℕ) → AllRightBefore f t w n → (bound k : ℕ) → k < bound → k < n → Keeps P k
    all_keep n right zero k below within = absurd (omega arith)
    all_keep n right (suc bound) k below within =
        kept_with k (antecedents_at t k) refl (right k within)
        (λ p i. let before : p < k = earlier k p i in all_keep n right bound p (omega arith) (omega arith))

    -- what holds of originals and of what follows holds of each clause of a trace without faults
    pub keep : (n k : ℕ) → AllRightBefore f t w n → k < n → Keeps P k
    keep n k right within = all_keep n right n k within within

-- an original is true where the list is
original_true : (f : List Lits) (t : List Entry) (a : List ℕ) → ((c : Lits) → Has f c → Satisfies a c)
    → (k : ℕ) → HasClause f (lits_at t k) → antecedents_at t k ≡ [] → (c : Lits) × (LitsOf t k ≡ Some c) × Satisfies a c
original_true f t a all k h none = stated_true (stated_at t k) refl (satisfies_same a h.0 (lits_at t k) h.2 (all h.0 h.1))
  where
    -- a clause whose stated literals are satisfied is satisfied
    stated_true : (stated : Option Lits) → stated_at t k ≡ stated → Satisfies a (lits_at t k) → (c : Lits) × (LitsOf t k ≡ Some c) × Satisfies a c
    stated_true None e s = absurd (let empty : Satisfies a [] = subst (λ o. Satisfies a (literals_in o)) e s in empty.1)
    stated_true (Some c) e s = (c, lits_stated t k c e, subst (λ o. Satisfies a (literals_in o)) e s)

-- a list is unsatisfiable where a trace of it has no fault and ends with the empty clause
pub unsat : (variables : ℕ) (f : List Lits) (t : List Entry) (w : ℕ) → AntecedentsAreEarlier t
    → AllRightBefore f t w (length t) → EndsEmpty t → Unsat variables f
unsat variables f t w earlier right ends a assignment all =
    let last : length t - 1 < length t = let some = ends.0 in omega arith in
    let kept = keep f t w earlier (Satisfies a) (resolves_keeps a) (original_true f t a all) (length t) (length t - 1) right last in
    let same : kept.0 ≡ [] = let one = kept.1 in let other = ends.1 in cc in
    let empty : Satisfies a [] = subst (Satisfies a) same kept.2 in
    empty.1
