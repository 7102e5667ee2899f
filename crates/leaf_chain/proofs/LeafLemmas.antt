-- The clause at the end of a chain.
use Rattle.std.proofs.Common.{◌≡◌, ℕ, ◌+◌, ◌≤◌, ◌⊎◌, inl, inr, Bool, List, [], ◌∷◌, ◌++◌, length, length-append, map, take, Result, Ok, Err, refl, sym, ◌∙◌, ap, subst, arith}
use Rattle.std.proofs.lemmas.Bool.{cases_lt}
use Rattle.clause_defs.specs.Clauses.{Lits, SameSet}
use Rattle.clause_defs.specs.Resolution.{Resolves}
use Rattle.clause_laws.proofs.ClauseLemmas.{same_refl}
use Rattle.log_defs.specs.Logs.{Derived, words_of, LogValue, HasDerived, clause_of_log}
use Rattle.log_defs.specs.Deriving.{IsTaken, IsOver, DeriveEnds, with_derived}
use Rattle.log_defs.specs.declared.log_end.LogEnd.{LogEnd}
use Rattle.log_defs.specs.declared.log_end.LogEnd.TheVariants.{Kept, Spent}
use Rattle.log_laws.proofs.LogLemmas.{clause_with-derived, clause_with-before, derived_at-last, extends_refl}
use Rattle.proof_log.proofs.KeptLemmas.{Words-more}
use Rattle.leaf_defs.specs.Evaluated.{Evaluated, IsFalseAmong}
use Rattle.leaf_chain.specs.Marks.{marked, AreMarksAmong, IsRunning}
use Rattle.leaf_chain.specs.Leaves.{IsLeaf, IsLeafSpent, LeafEnds}
use Rattle.leaf_chain.proofs.MarkLemmas.{marked-Has}

-- a clause that the log has is as good as a new one
abbrev pub kept_is_ok : Result ℕ LogEnd → Result ℕ LogEnd
kept_is_ok (Ok index) = Ok index
kept_is_ok (Err (Kept index)) = Ok index
kept_is_ok (Err (Spent used need)) = Err (Spent used need)

-- a chain has a first clause
some_antecedents : (g : ℕ → Lits) (is : List ℕ) (c : Lits) → Resolves (map g is) c → 1 ≤ length is
some_antecedents g [] c h = absurd h
some_antecedents g (i ∷ is) c h = omega arith

-- a clause with the literals of the running one has false literals of chosen variables alone
false_chosen : (e : Evaluated) (marks : List Bool) (lits c : Lits) → AreMarksAmong marks (take e.chosen e.order)
    → SameSet (marked marks e.values) lits → SameSet c lits → IsFalseAmong e.values (take e.chosen e.order) c
false_chosen e marks lits c among same other l h =
    let own = marked-Has marks e.values l ((same l).1 ((other l).0 h)) in (own.1, among l.variable own.0)

-- a derived clause of the log with one more is an old one, or the last
old_or_last_taken : (d : Derived) (log : LogValue) (index : ℕ) → index ≡ length log.originals.clauses + length log.derived + 1
    → (c : Lits) (i : ℕ) → HasDerived (with_derived log d) c i
    → HasDerived log c i ⊎ ((i ≡ index) × (i ≡ length log.originals.clauses + length (log.derived ++ d ∷ [])))
old_or_last_taken d log index next c i h =
    let longer = length-append log.derived (d ∷ []) in
    let behind = h.behind_originals in
    let within = h.within in
    elim (cases_lt i index) [
      | inl below ↦ inl (record {
        behind_originals = behind;
        within = omega arith;
        same =
            subst (λ (k : Lits). SameSet k c)
            (clause_with-before log.originals.clauses log.derived (d ∷ []) i (omega arith) (omega arith)) h.same;
      })
      | inr past ↦ inr (omega arith, omega arith)
    ]

module _ (e : Evaluated) (log : LogValue) (marks : List Bool) (ants : List ℕ) (lits : Lits) (running : IsRunning e log marks ants e.chosen)
    (same : SameSet (marked marks e.values) lits) (few : length lits ≤ e.chosen) where
  -- the clause has at most as many words as there are variables with values, and four
  leaf_size : words_of (record { lits = lits; antecedents = ants }) ≤ length e.order + 4
  leaf_size = let most = running.few in omega arith

  -- the log had the clause already
  pub leaf_kept : (index : ℕ) → HasDerived log lits index → IsLeaf e log log index
  leaf_kept index h = record {
    log_is = extends_refl log;
    behind_originals = h.behind_originals;
    within = h.within;
    chosen_alone = false_chosen e marks lits (clause_of_log log index) running.known same h.same;
    old_or_last = λ c i old. inl old;
    words = omega arith;
  }

  -- the log takes the clause
  pub leaf_taken : (index : ℕ) (after : LogValue) → IsTaken log (record { lits = lits; antecedents = ants }) index after → IsLeaf e log after index
  leaf_taken index after taken =
      let d : Derived = record { lits = lits; antecedents = ants } in
      let longer = length-append log.derived (d ∷ []) in
      let next = taken.next in
      let own : clause_of_log (with_derived log d) index ≡ lits =
      clause_with-derived log.originals.clauses (log.derived ++ d ∷ []) index (length log.derived) (omega arith) (omega arith)
      ∙ ap (λ (x : Derived). x.lits) (derived_at-last log.derived d (length log.derived) refl) in
      let leaf : IsLeaf e log (with_derived log d) index = record {
        log_is = record { originals = refl; budget = refl; more = d ∷ []; derived = refl };
        behind_originals = omega arith;
        within = omega arith;
        chosen_alone =
            subst (IsFalseAmong e.values (take e.chosen e.order)) (sym own)
            (false_chosen e marks lits lits running.known same (same_refl lits));
        old_or_last = old_or_last_taken d log index next;
        words = let all = Words-more log.derived d in let size = leaf_size in omega arith;
      } in
      subst (λ l. IsLeaf e log l index) (sym taken.appended) leaf

  -- the clause is over the budget
  pub leaf_spent : (used need : ℕ) (after : LogValue) → IsOver log (record { lits = lits; antecedents = ants }) used need → after ≡ log → IsLeafSpent e log after used need
  leaf_spent used need after over e_after = record {
    log_is = e_after;
    used_is = over.used_is;
    need_low = let some = some_antecedents (clause_of_log log) ants (marked marks e.values) running.resolves in let is = over.need_is in omega arith;
    need_high = let is = over.need_is in let size = leaf_size in omega arith;
    over = over.over;
  }

  -- deriving the clause ends so
  pub leaf_ends : (r : Result ℕ LogEnd) (after : LogValue) → DeriveEnds log (record { lits = lits; antecedents = ants }) r after
      → LeafEnds e log (kept_is_ok r) after
  leaf_ends (Ok index) after h = leaf_taken index after h
  leaf_ends (Err (Kept index)) after h = subst (λ l. IsLeaf e log l index) (sym h.1) (leaf_kept index h.0)
  leaf_ends (Err (Spent used need)) after h = leaf_spent used need after h.0 h.1
