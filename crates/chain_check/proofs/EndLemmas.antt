-- How the end of a chain depends on its clauses as sets and on the stated clause.
use Rattle.std.proofs.Common.{ℕ, ◌+◌, ◌⊎◌, inl, inr, List, [], ◌∷◌, map, Option, Some, None, Result, Ok, Err, refl, sym, subst}
use Rattle.clause_defs.specs.Literals.{Literal, negation}
use Rattle.clause_defs.specs.Clauses.{Lits, Has, SameSet}
use Rattle.clause_defs.specs.Resolution.{Step, NoClash, ManyClash, Chain, Resolves}
use Rattle.clause_defs.specs.Verdicts.{ChainEnds, ChainFault}
use Rattle.clause_defs.specs.declared.verdict.ChainError.{ChainError}
use Rattle.clause_laws.proofs.ClauseLemmas.{same_sym, same_trans, Has-map}
use Rattle.clause_laws.proofs.Resolvents.{chain_same}
use Rattle.chain_check.proofs.ChainLemmas.{ends_same}

-- ---- with and without a stated clause

module _ (index : ℕ) (c : Lits) where
  -- a faulty step is the same fault whatever is stated
  ends_err : (step : ℕ) (r : Lits) (cs : List Lits) (e : ChainError) → ChainEnds index None step r cs (Err e) → ChainEnds index (Some c) step r cs (Err e)
  ends_err step r [] e h = absurd cc
  ends_err step r (d ∷ cs) e (inl h) = inl h
  ends_err step r (d ∷ cs) e (inr (inl h)) = inr (inl h)
  ends_err step r (d ∷ cs) e (inr (inr h)) = inr (inr (h.0, h.1, ends_err (step + 1) h.0 cs e h.2))

  -- a chain that comes to the stated set has no fault
  ends_ok : (step : ℕ) (r : Lits) (cs : List Lits) (s : Lits) → Chain r cs s → SameSet s c → ChainEnds index (Some c) step r cs (Ok tt)
  ends_ok step r [] s h same = inl (same_trans r s c h same, refl)
  ends_ok step r (d ∷ cs) s h same = inr (inr (h.0, h.1, ends_ok (step + 1) h.0 cs s h.2 same))

  -- a chain that comes to another set than the stated one has that fault
  ends_other : (step : ℕ) (r : Lits) (cs : List Lits) (s : Lits) → Chain r cs s → (SameSet s c → ⊥)
      → ChainEnds index (Some c) step r cs (Err (ChainError.Other index))
  ends_other step r [] s h other = inr ((λ k. other (same_trans s r c (same_sym r s h) k)), refl)
  ends_other step r (d ∷ cs) s h other = inr (inr (h.0, h.1, ends_other (step + 1) h.0 cs s h.2 other))

  -- a faulty step is the same where a clause is stated
  pub fault_err : (cs : List Lits) (e : ChainError) → ChainFault index None cs (Err e) → ChainFault index (Some c) cs (Err e)
  fault_err [] e h = h
  fault_err (r ∷ cs) e h = ends_err 1 r cs e h

  -- a chain that comes to the stated clause
  pub fault_ok : (cs : List Lits) (s : Lits) → Resolves cs s → SameSet s c → ChainFault index (Some c) cs (Ok tt)
  fault_ok [] s h same = h
  fault_ok (r ∷ cs) s h same = ends_ok 1 r cs s h same

  -- and one that comes to another
  pub fault_other : (cs : List Lits) (s : Lits) → Resolves cs s → (SameSet s c → ⊥) → ChainFault index (Some c) cs (Err (ChainError.Other index))
  fault_other [] s h other = h
  fault_other (r ∷ cs) s h other = ends_other 1 r cs s h other

-- ---- clauses that are the same as sets, one by one

-- the lists have as many clauses, and clauses in the same place are the same set
abbrev pub AllSame : List Lits → List Lits → Type 0
AllSame [] [] = Unit {0}
AllSame [] (d ∷ ds) = ⊥
AllSame (c ∷ cs) [] = ⊥
AllSame (c ∷ cs) (d ∷ ds) = SameSet c d × AllSame cs ds

-- whether no literal clashes is told by the antecedent as a set
none_other : (r c d : Lits) → SameSet c d → NoClash r c → NoClash r d
none_other r c d same none l h = none l (h.0, (same (negation l)).1 h.1)

-- whether several literals clash is told by the antecedent as a set
many_other : (r c d : Lits) → SameSet c d → ManyClash r c → ManyClash r d
many_other r c d same h = (h.0, h.1, h.2, (h.3.0, (same (negation h.0)).0 h.3.1), (h.4.0, (same (negation h.1)).0 h.4.1))

-- a step with an antecedent is one with the same set
step_other : (r c d s : Lits) → SameSet c d → Step r c s → Step r d s
step_other r c d s same step = record {
  pivot = step.pivot;
  clashes = (step.clashes.0, (same (negation step.pivot)).0 step.clashes.1);
  only = λ l h. step.only l (h.0, (same (negation l)).1 h.1);
  resolvent = λ l. (
    λ h. elim ((step.resolvent l).0 h) [ inl k ↦ inl k | inr k ↦ inr ((same l).0 k.0, k.1) ],
    λ h. (step.resolvent l).1 (elim h [ inl k ↦ inl k | inr k ↦ inr ((same l).1 k.0, k.1) ]),
  );
}

module _ (index : ℕ) (stated : Option Lits) where
  -- a chain ends alike through clauses that are the same sets
  ends_among : (step : ℕ) (r : Lits) (cs ds : List Lits) (end : Result (Unit {0}) ChainError) → AllSame cs ds
      → ChainEnds index stated step r cs end → ChainEnds index stated step r ds end
  ends_among step r [] [] end same h = h
  ends_among step r [] (d ∷ ds) end same h = absurd same
  ends_among step r (c ∷ cs) [] end same h = absurd same
  ends_among step r (c ∷ cs) (d ∷ ds) end same (inl h) = inl (none_other r c d same.0 h.0, h.1)
  ends_among step r (c ∷ cs) (d ∷ ds) end same (inr (inl h)) = inr (inl (many_other r c d same.0 h.0, h.1))
  ends_among step r (c ∷ cs) (d ∷ ds) end same (inr (inr h)) =
      inr (inr (h.0, step_other r c d h.0 same.0 h.1, ends_among (step + 1) h.0 cs ds end same.1 h.2))

  -- the chain of a clause ends alike through antecedents that are the same sets
  pub fault_among : (cs ds : List Lits) (end : Result (Unit {0}) ChainError) → AllSame cs ds → ChainFault index stated cs end → ChainFault index stated ds end
  fault_among [] [] end same h = h
  fault_among [] (d ∷ ds) end same h = absurd same
  fault_among (c ∷ cs) [] end same h = absurd same
  fault_among (c ∷ cs) (d ∷ ds) end same h = ends_same index stated 1 c d ds end same.0 (ends_among 1 c cs ds end same.1 h)

-- a chain through clauses is one through clauses that are the same sets
chain_among : (r : Lits) (cs ds : List Lits) (s : Lits) → AllSame cs ds → Chain r cs s → Chain r ds s
chain_among r [] [] s same h = h
chain_among r [] (d ∷ ds) s same h = absurd same
chain_among r (c ∷ cs) [] s same h = absurd same
chain_among r (c ∷ cs) (d ∷ ds) s same h = (h.0, step_other r c d h.0 same.0 h.1, chain_among h.0 cs ds s same.1 h.2)

-- what follows from clauses follows from clauses that are the same sets
pub resolves_among : (cs ds : List Lits) (s : Lits) → AllSame cs ds → Resolves cs s → Resolves ds s
resolves_among [] [] s same h = h
resolves_among [] (d ∷ ds) s same h = absurd same
resolves_among (c ∷ cs) [] s same h = absurd same
resolves_among (c ∷ cs) (d ∷ ds) s same h = chain_same c d ds s same.0 (chain_among c cs ds s same.1 h)

-- ---- where the literals of a chain's clause come from

-- each literal that a chain ends with is of the clause that it begins with or of an antecedent
chain_from : (r : Lits) (cs : List Lits) (s : Lits) (l : Literal) → Chain r cs s → Has s l → Has r l ⊎ ((c : Lits) × Has cs c × Has c l)
chain_from r [] s l h in_s = inl ((h l).1 in_s)
chain_from r (c ∷ cs) s l h in_s =
    elim (chain_from h.0 cs s l h.2 in_s) [
      | inl k ↦ elim ((h.1.resolvent l).0 k) [ inl j ↦ inl j.0 | inr j ↦ inr (c, inl refl, j.0) ]
      | inr k ↦ inr (k.0, inr k.1, k.2)
    ]

-- each literal of a clause that follows from others is of one of them
pub resolves_from : (cs : List Lits) (s : Lits) (l : Literal) → Resolves cs s → Has s l → (c : Lits) × Has cs c × Has c l
resolves_from [] s l h in_s = absurd h
resolves_from (r ∷ cs) s l h in_s = elim (chain_from r cs s l h in_s) [ inl k ↦ (r, inl refl, k) | inr k ↦ (k.0, inr k.1, k.2) ]

-- of clauses at places
pub place_from : (g : ℕ → Lits) (ps : List ℕ) (s : Lits) (l : Literal) → Resolves (map g ps) s → Has s l → (p : ℕ) × Has ps p × Has (g p) l
place_from g ps s l h in_s =
    let from = resolves_from (map g ps) s l h in_s in
    let at = Has-map g ps from.0 from.1 in
    (at.0, at.1, subst (λ c. Has c l) (sym at.2) from.2)
