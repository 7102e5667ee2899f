-- The trace of a log is a trace, and each of its clauses is stated.
use Rattle.std.proofs.Common.{◌≡◌, ◌≢◌, ℕ, ◌+◌, ◌-◌, ◌<◌, ◌≤◌, inl, inr, ⊎_elim, List, [], ◌∷◌, length, get_or, Option, Some, None, sym, ◌∙◌, ap, subst, arith}
use Rattle.std.proofs.lemmas.Bool.{cases_lt}
use Rattle.std.proofs.lemmas.Option.{slice_get_past}
use Rattle.clause_defs.specs.declared.verdict.TheConstants.{MAX_INDEX}
use Rattle.clause_defs.specs.Clauses.{Lits, Has, IsClause}
use Rattle.clause_defs.specs.Compaction.{AllStated}
use Rattle.clause_defs.specs.Traces.{Entry, IsTrace, literals_in, antecedents_of, stated_at, antecedents_at, index_at}
use Rattle.clause_laws.proofs.ClauseLemmas.{Has-map}
use Rattle.log_defs.specs.Logs.{Derived, derived_at, clause_with, LogOk, LogValue, words_of, Words, IsLog}
use Rattle.log_defs.specs.LogTraces.{place_with, trace_of}
use Rattle.log_laws.proofs.LogLemmas.{clause_with-original, clause_with-derived}
use Rattle.log_laws.proofs.TraceOfLemmas.{length-trace_of, original_there, derived_there, index_at-trace_of, stated-trace_of, Has-get_or}
use Rattle.std.proofs.lemmas.List.Sums.{sum_by-cons}

-- what is stated is no sign
some_stated : {X : Type 0} (c : Lits) (o : Option Lits) → o ≡ Some c → o ≡ None → X
some_stated c o some none = (let clash : Some c ≡ None = sym some ∙ none in absurd (cc))

-- each derived clause has a word at least
few_derived : (ds : List Derived) → length ds ≤ Words ds
few_derived [] = omega arith
few_derived (d ∷ ds) = omega (arith, sum_by-cons words_of d ds, few_derived ds)

-- a log has no more clauses than a trace has indices
pub few_clauses : (l : LogValue) → IsLog l → length l.originals.clauses + length l.derived ≤ MAX_INDEX
few_clauses l h = omega (arith, few_derived l.derived, h.within_budget, h.few)

-- the clauses of the list are clauses
abbrev AreClauses : List Lits → Type 0
AreClauses f = (c : Lits) → Has f c → IsClause c

module _ (f : List Lits) (ds : List Derived) (ok : LogOk f ds) where
  -- the antecedents of a derived clause stand before it
  derived_earlier : (k i : ℕ) → i < length ds → k ≡ length f + i → (p : ℕ) → Has (antecedents_at (trace_of f ds) k) p → p < k
  derived_earlier k i lt e p h =
      let from = Has-map place_with (derived_at ds i).antecedents p (subst (λ (ps : List ℕ). Has ps p) (ap antecedents_of (derived_there f ds i k lt e)) h) in
      let range = ok.earlier i from.0 from.1 in
      let low : 1 ≤ from.0 = range.0 in
      let high : from.0 ≤ length f + i = range.1 in
      let same : from.0 - 1 ≡ p = from.2 in omega arith

  -- each antecedent stands earlier: an original has none, and nor has what stands past the end
  trace_earlier : (k p : ℕ) → Has (antecedents_at (trace_of f ds) k) p → p < k
  trace_earlier k p h = elim (cases_lt k (length f)) [
    | inl first ↦ absurd (subst (λ (ps : List ℕ). Has ps p) (ap antecedents_of (original_there f ds k first)) h)
    | inr later ↦ elim (cases_lt k (length f + length ds)) [
      | inl within ↦ derived_earlier k (k - length f) (omega arith) (omega arith) p h
      | inr past ↦
          absurd (subst (λ (ps : List ℕ). Has ps p)
          (ap antecedents_of (slice_get_past (trace_of f ds) k (omega (arith, length-trace_of f ds)))) h)
    ]
  ]

  -- the clauses of the log are clauses, if those of the formula and the derived ones are
  clause_there : AreClauses f → ((d : Derived) → Has ds d → IsClause d.lits) → (k : ℕ) → k < length f + length ds → IsClause (clause_with f ds (k + 1))
  clause_there originals derived k lt = elim (cases_lt k (length f)) [
    | inl first ↦
        subst IsClause (sym (clause_with-original f ds (k + 1) (omega arith) (omega arith)))
        (originals (get_or f (k + 1 - 1) []) (Has-get_or f (k + 1 - 1) [] (omega arith)))
    | inr later ↦
        subst IsClause (sym (clause_with-derived f ds (k + 1) (k - length f) (omega arith) (omega arith)))
        (derived (derived_at ds (k - length f)) (Has-get_or ds (k - length f) (record { lits = []; antecedents = [] }) (omega arith)))
  ]

  -- the trace of a log is a trace
  pub trace_of-IsTrace : AreClauses f → ((d : Derived) → Has ds d → IsClause d.lits) → length f + length ds ≤ MAX_INDEX → IsTrace (trace_of f ds)
  trace_of-IsTrace originals derived few =
      let long = length-trace_of f ds in
      record {
        earlier = trace_earlier;
        clauses = λ k lt.
            let within : k < length f + length ds = omega arith in
            subst (λ (o : Option Lits). IsClause (literals_in o)) (sym (stated-trace_of f ds k within)) (clause_there originals derived k within);
        derived = λ k lt sign.
            some_stated (clause_with f ds (k + 1)) (stated_at (trace_of f ds) k) (stated-trace_of f ds k (omega arith)) sign;
        low = λ k lt. (let at = index_at-trace_of f ds k (omega arith) in omega arith);
        high = λ k lt. (let at = index_at-trace_of f ds k (omega arith) in omega arith);
        distinct = λ j k less lt same.
            let at = index_at-trace_of f ds j (omega arith) in
            let other = index_at-trace_of f ds k (omega arith) in
            let equal : index_at (trace_of f ds) j ≡ index_at (trace_of f ds) k = same in omega arith;
      }

-- each clause of the trace of a log is stated
pub trace_of-AllStated : (f : List Lits) (ds : List Derived) → AllStated (trace_of f ds)
trace_of-AllStated f ds k lt sign =
    some_stated (clause_with f ds (k + 1)) (stated_at (trace_of f ds) k) (stated-trace_of f ds k (omega (arith, length-trace_of f ds))) sign

-- the trace of a log over clauses is a trace
pub log_trace : (l : LogValue) → IsLog l → AreClauses l.originals.clauses → IsTrace (trace_of l.originals.clauses l.derived)
log_trace l h originals = trace_of-IsTrace l.originals.clauses l.derived h.ok originals h.clauses (few_clauses l h)
