-- How a chain begins, and how it goes on.
use Rattle.std.proofs.Common.{◌≡◌, ℕ, ◌+◌, ◌<◌, ◌≤◌, inl, inr, List, [], ◌∷◌, length, get_or, map, drop, Option, Some, None, Result, Ok, Err, refl, sym, subst, arith, drop_of_length-le}
use Rattle.std.proofs.lemmas.List.{drop_more, get_or_default}
use Rattle.clause_defs.specs.Clauses.{Lits, Has, SameSet}
use Rattle.clause_defs.specs.Resolution.{Step, NoClash, ManyClash, Chain, Resolves}
use Rattle.clause_defs.specs.Verdicts.{EndsAt, ChainEnds, ChainFault}
use Rattle.clause_defs.specs.declared.verdict.ChainError.{ChainError}
use Rattle.clause_laws.proofs.ClauseLemmas.{same_refl, same_sym, same_trans}
use Rattle.clause_laws.proofs.Resolvents.{chain_same}
use Rattle.chain_check.proofs.ClauseLists.{Has-get}

-- the number at a place of a list is one of the list
pub Has-get_or : (xs : List ℕ) (i : ℕ) → i < length xs → Has xs (get_or xs i 0)
Has-get_or xs i lt = Has-get xs i (get_or xs i 0) lt (get_or_default xs i 0 (get_or xs i 0) lt)

-- whether no literal clashes is told by the running clause as a set
none_same : (r q c : Lits) → SameSet r q → NoClash r c → NoClash q c
none_same r q c same none l h = none l ((same l).1 h.0, h.1)

-- whether several literals clash is told by the running clause as a set
several_same : (r q c : Lits) → SameSet r q → ManyClash r c → ManyClash q c
several_same r q c same h = (h.0, h.1, h.2, ((same h.0).0 h.3.0, h.3.1), ((same h.1).0 h.4.0, h.4.1))

-- a step from a running clause is one from the same set
step_same : (r q c s : Lits) → SameSet r q → Step r c s → Step q c s
step_same r q c s same step = record {
  pivot = step.pivot;
  clashes = ((same step.pivot).0 step.clashes.0, step.clashes.1);
  only = λ l h. step.only l ((same l).1 h.0, h.1);
  resolvent = λ l. (
    λ h. elim ((step.resolvent l).0 h) [ inl k ↦ inl ((same l).0 k.0, k.1) | inr k ↦ inr k ],
    λ h. (step.resolvent l).1 (elim h [ inl k ↦ inl ((same l).1 k.0, k.1) | inr k ↦ inr k ]),
  );
}

-- how a chain stops is that of the set
stops_same : (index : ℕ) (stated : Option Lits) (r q : Lits) (end : Result (Unit {0}) ChainError)
    → SameSet r q → EndsAt index stated r end → EndsAt index stated q end
stops_same index None r q end same h = h
stops_same index (Some stated) r q end same (inl h) = inl (same_trans q r stated (same_sym r q same) h.0, h.1)
stops_same index (Some stated) r q end same (inr h) = inr ((λ k. h.0 (same_trans r q stated same k)), h.1)

-- a chain goes on alike from two running clauses that are the same set
pub ends_same : (index : ℕ) (stated : Option Lits) (step : ℕ) (r q : Lits) (cs : List Lits) (end : Result (Unit {0}) ChainError)
    → SameSet r q → ChainEnds index stated step r cs end → ChainEnds index stated step q cs end
ends_same index stated step r q [] end same h = stops_same index stated r q end same h
ends_same index stated step r q (c ∷ cs) end same (inl h) = inl (none_same r q c same h.0, h.1)
ends_same index stated step r q (c ∷ cs) end same (inr (inl h)) = inr (inl (several_same r q c same h.0, h.1))
ends_same index stated step r q (c ∷ cs) end same (inr (inr h)) = inr (inr (h.0, step_same r q c h.0 same h.1, h.2))

module _ (g : ℕ → Lits) (index : ℕ) where
  -- a chain begins with its first antecedent
  pub chain_begins : (ps : List ℕ) (r : Lits) → 0 < length ps → SameSet r (g (get_or ps 0 0)) → (end : Result (Unit {0}) ChainError)
      → ChainEnds index None 1 r (map g (drop 1 ps)) end → ChainFault index None (map g ps) end
  chain_begins [] r some same end h = absurd (omega arith)
  chain_begins (p ∷ ps) r some same end h = ends_same index None 1 r (g p) (map g ps) end same h

  -- what the rest of a chain comes to from its first antecedent follows from all
  pub resolves_begins : (ps : List ℕ) (r : Lits) → 0 < length ps → SameSet r (g (get_or ps 0 0)) → (s : Lits)
      → Chain r (map g (drop 1 ps)) s → Resolves (map g ps) s
  resolves_begins [] r some same s h = absurd (omega arith)
  resolves_begins (p ∷ ps) r some same s h = chain_same r (g p) (map g ps) s same h

  -- a chain ends where none or several literals clash
  pub chain_clashes_often : (ps : List ℕ) (step : ℕ) (r : Lits) → step < length ps → ManyClash r (g (get_or ps step 0))
      → ChainEnds index None step r (map g (drop step ps)) (Err (ChainError.ManyClash index step))
  chain_clashes_often ps step r lt several =
      subst (λ (qs : List ℕ). ChainEnds index None step r (map g qs) (Err (ChainError.ManyClash index step)))
      (sym (drop_more ps step 0 lt)) (inr (inl (several, refl)))

  -- a chain ends where no literal clashes
  pub chain_clashes_never : (ps : List ℕ) (step : ℕ) (r : Lits) → step < length ps → NoClash r (g (get_or ps step 0))
      → ChainEnds index None step r (map g (drop step ps)) (Err (ChainError.NoClash index step))
  chain_clashes_never ps step r lt none =
      subst (λ (qs : List ℕ). ChainEnds index None step r (map g qs) (Err (ChainError.NoClash index step)))
      (sym (drop_more ps step 0 lt)) (inl (none, refl))

  -- or goes on where one does
  pub chain_steps : (ps : List ℕ) (step : ℕ) (r s : Lits) → step < length ps → Step r (g (get_or ps step 0)) s → (end : Result (Unit {0}) ChainError)
      → ChainEnds index None (step + 1) s (map g (drop (step + 1) ps)) end → ChainEnds index None step r (map g (drop step ps)) end
  chain_steps ps step r s lt one end h =
      subst (λ (qs : List ℕ). ChainEnds index None step r (map g qs) end) (sym (drop_more ps step 0 lt)) (inr (inr (s, one, h)))

  -- what the rest of a chain comes to from behind a step it comes to from before it
  pub resolves_steps : (ps : List ℕ) (step : ℕ) (r s : Lits) → step < length ps → Step r (g (get_or ps step 0)) s → (q : Lits)
      → Chain s (map g (drop (step + 1) ps)) q → Chain r (map g (drop step ps)) q
  resolves_steps ps step r s lt one q h = subst (λ (qs : List ℕ). Chain r (map g qs) q) (sym (drop_more ps step 0 lt)) (s, one, h)

  -- or is at its end
  pub chain_stops : (ps : List ℕ) (step : ℕ) (r : Lits) → length ps ≤ step → ChainEnds index None step r (map g (drop step ps)) (Ok tt)
  chain_stops ps step r le = subst (λ (qs : List ℕ). ChainEnds index None step r (map g qs) (Ok tt)) (sym (drop_of_length-le ps le)) refl

  -- behind its last antecedent a chain comes to the running clause
  pub resolves_stops : (ps : List ℕ) (step : ℕ) (r : Lits) → length ps ≤ step → Chain r (map g (drop step ps)) r
  resolves_stops ps step r le = subst (λ (qs : List ℕ). Chain r (map g qs) r) (sym (drop_of_length-le ps le)) (same_refl r)

-- a list that is the same as one with an element has an element
pub some_antecedent : (ps qs : List ℕ) → ps ≡ qs → (qs ≡ [] → ⊥) → 0 < length ps
some_antecedent [] qs e ne = absurd (ne (sym e))
some_antecedent (p ∷ ps) qs e ne = omega arith
