-- The trace of a log, place by place.
use Rattle.std.proofs.Common.{◌≡◌, ◌≢◌, ℕ, zero, suc, ◌+◌, ◌-◌, ◌<◌, ◌≤◌, inl, inr, List, [], ◌∷◌, ◌++◌, length, map, get_or, slice_get, Option, Some, None, Result, Ok, refl, sym, ◌∙◌, ap, subst, arith, length-append}
use Rattle.std.proofs.lemmas.Bool.{cases_lt}
use Rattle.std.proofs.lemmas.List.{append_assoc, append-nil}
use Rattle.clause_defs.specs.Clauses.{Lits, Has, SameSet, HasClause}
use Rattle.clause_defs.specs.Resolution.{Chain, Resolves}
use Rattle.clause_defs.specs.Traces.{Entry, stated_of, antecedents_of, index_of, stated_at, antecedents_at, index_at, lits_at, literals_in}
use Rattle.clause_defs.specs.TraceClauses.{LitsOf, all_given, given_with, antecedent_lits}
use Rattle.clause_defs.specs.Verdicts.{ChainEnds, ChainFault, derived_fault_of, DerivedFault, FaultWith, AllRightBefore, EndsEmpty, VerdictOf}
use Rattle.clause_defs.specs.declared.verdict.Verdict.{Verdict}
use Rattle.clause_laws.proofs.ClauseLemmas.{same_refl}
use Rattle.clause_laws.proofs.TraceLits.{lits_stated}
use Rattle.log_defs.specs.Logs.{Derived, derived_at, clause_with, LogOk}
use Rattle.log_defs.specs.LogTraces.{place_with, original_entry, derived_entry, original_entries, derived_entries, trace_of, EndsWithEmpty}
use Rattle.log_laws.proofs.LogLemmas.{clause_with-original, clause_with-derived}

-- ---- how long it is, and what stands where

-- there is one entry for each clause of the formula
length-original_entries : (i : ℕ) (f : List Lits) → length (original_entries i f) ≡ length f
length-original_entries i [] = refl
length-original_entries i (c ∷ cs) = ap suc (length-original_entries (i + 1) cs)

-- and one for each derived clause
length-derived_entries : (i : ℕ) (ds : List Derived) → length (derived_entries i ds) ≡ length ds
length-derived_entries i [] = refl
length-derived_entries i (d ∷ ds) = ap suc (length-derived_entries (i + 1) ds)

-- so the trace has as many entries as there are clauses in the log
pub length-trace_of : (f : List Lits) (ds : List Derived) → length (trace_of f ds) ≡ length f + length ds
length-trace_of f ds =
    let all = length-append (original_entries 1 f) (derived_entries (length f + 1) ds) in
    let first = length-original_entries 1 f in
    let second = length-derived_entries (length f + 1) ds in omega arith

-- the entry of a clause of the formula stands in the clause's place and has its index
at_original : (i : ℕ) (f : List Lits) (k j : ℕ) → k < length f → j ≡ i + k → slice_get (original_entries i f) k ≡ Some (original_entry j (get_or f k []))
at_original i [] k j lt e = absurd (omega arith)
at_original i (c ∷ cs) zero j lt e = ap (λ n. Some (original_entry n c)) (let same : i ≡ j = omega arith in same)
at_original i (c ∷ cs) (suc k) j lt e = at_original (i + 1) cs k j (omega arith) (omega arith)

-- and so does the entry of a derived clause
at_derived : (i : ℕ) (ds : List Derived) (k j : ℕ) → k < length ds → j ≡ i + k → slice_get (derived_entries i ds) k ≡ Some (derived_entry j (derived_at ds k))
at_derived i [] k j lt e = absurd (omega arith)
at_derived i (d ∷ ds) zero j lt e = ap (λ n. Some (derived_entry n d)) (let same : i ≡ j = omega arith in same)
at_derived i (d ∷ ds) (suc k) j lt e = at_derived (i + 1) ds k j (omega arith) (omega arith)

-- a place within the first of two joined lists has what the first one has there
front : {X : Type 0} (xs ys : List X) (k : ℕ) → k < length xs → slice_get (xs ++ ys) k ≡ slice_get xs k
front [] ys k lt = absurd (omega arith)
front (x ∷ xs) ys zero lt = refl
front (x ∷ xs) ys (suc k) lt = front xs ys k (omega arith)

-- a place behind it has what the second one has, counted from the second one's start
back : {X : Type 0} (xs ys : List X) (k j : ℕ) → k ≡ length xs + j → slice_get (xs ++ ys) k ≡ slice_get ys j
back [] ys k j e = ap (slice_get ys) (let same : k ≡ j = omega arith in same)
back (x ∷ xs) ys zero j e = absurd (omega arith)
back (x ∷ xs) ys (suc k) j e = back xs ys k j (omega arith)

module _ (f : List Lits) (ds : List Derived) where
  -- the first entries of the trace are those of the formula's clauses
  pub original_there : (k : ℕ) → k < length f → slice_get (trace_of f ds) k ≡ Some (original_entry (k + 1) (get_or f k []))
  original_there k lt =
      front (original_entries 1 f) (derived_entries (length f + 1) ds) k (omega (arith, length-original_entries 1 f))
      ∙ at_original 1 f k (k + 1) lt (omega arith)

  -- the next ones are those of the derived clauses
  pub derived_there : (k p : ℕ) → k < length ds → p ≡ length f + k → slice_get (trace_of f ds) p ≡ Some (derived_entry (p + 1) (derived_at ds k))
  derived_there k p lt e =
      back (original_entries 1 f) (derived_entries (length f + 1) ds) p k (omega (arith, length-original_entries 1 f))
      ∙ at_derived (length f + 1) ds k (p + 1) lt (omega arith)

  -- each clause has its index
  pub index_at-trace_of : (p : ℕ) → p < length f + length ds → index_at (trace_of f ds) p ≡ p + 1
  index_at-trace_of p lt = elim (cases_lt p (length f)) [
    | inl first ↦ ap index_of (original_there p first)
    | inr later ↦ ap index_of (derived_there (p - length f) p (omega arith) (omega arith))
  ]

  -- each clause is stated
  pub stated-trace_of : (p : ℕ) → p < length f + length ds → stated_at (trace_of f ds) p ≡ Some (clause_with f ds (p + 1))
  stated-trace_of p lt = elim (cases_lt p (length f)) [
    | inl first ↦
        ap stated_of (original_there p first)
        ∙ ap Some (ap (λ n. get_or f n []) (let same : p ≡ p + 1 - 1 = omega arith in same) ∙ sym (clause_with-original f ds (p + 1) (omega arith) (omega arith)))
    | inr later ↦
        ap stated_of (derived_there (p - length f) p (omega arith) (omega arith))
        ∙ ap Some (sym (clause_with-derived f ds (p + 1) (p - length f) (omega arith) (omega arith)))
  ]

  -- so the literals of each entry are those of the log's clause with that index
  lits-trace_of : (p : ℕ) → p < length f + length ds → LitsOf (trace_of f ds) p ≡ Some (clause_with f ds (p + 1))
  lits-trace_of p lt = lits_stated (trace_of f ds) p (clause_with f ds (p + 1)) (stated-trace_of p lt)

-- ---- one more clause

-- one more clause of the formula has its entry behind the others
original_entries-more : (i j : ℕ) (f : List Lits) (c : Lits) → j ≡ i + length f → original_entries i (f ++ c ∷ []) ≡ original_entries i f ++ original_entry j c ∷ []
original_entries-more i j [] c e = ap (λ n. original_entry n c ∷ []) (let same : i ≡ j = omega arith in same)
original_entries-more i j (b ∷ bs) c e = ap (λ es. original_entry i b ∷ es) (original_entries-more (i + 1) j bs c (omega arith))

-- one more derived clause has its entry behind the others
derived_entries-more : (i j : ℕ) (ds : List Derived) (d : Derived) → j ≡ i + length ds → derived_entries i (ds ++ d ∷ []) ≡ derived_entries i ds ++ derived_entry j d ∷ []
derived_entries-more i j [] d e = ap (λ n. derived_entry n d ∷ []) (let same : i ≡ j = omega arith in same)
derived_entries-more i j (c ∷ cs) d e = ap (λ es. derived_entry i c ∷ es) (derived_entries-more (i + 1) j cs d (omega arith))

-- a log without derived clauses, and with one more clause of the formula
pub trace_of-original : (f : List Lits) (c : Lits) (j : ℕ) → j ≡ length f + 1 → trace_of (f ++ c ∷ []) [] ≡ trace_of f [] ++ original_entry j c ∷ []
trace_of-original f c j e =
    append-nil (original_entries 1 (f ++ c ∷ []))
    ∙ original_entries-more 1 j f c (omega arith)
    ∙ ap (λ es. es ++ original_entry j c ∷ []) (sym (append-nil (original_entries 1 f)))

-- a log with one more derived clause
pub trace_of-derived : (f : List Lits) (ds : List Derived) (d : Derived) (j : ℕ) → j ≡ length f + length ds + 1
    → trace_of f (ds ++ d ∷ []) ≡ trace_of f ds ++ derived_entry j d ∷ []
trace_of-derived f ds d j e =
    ap (λ es. original_entries 1 f ++ es) (derived_entries-more (length f + 1) j ds d (omega arith))
    ∙ sym (append_assoc (original_entries 1 f) (derived_entries (length f + 1) ds) (derived_entry j d ∷ []))

-- ---- no clause is faulty

-- what is left of a chain that comes to the stated clause has no faulty step
chain_ends : (index : ℕ) (c : Lits) (step : ℕ) (r : Lits) (cs : List Lits) → Chain r cs c → ChainEnds index (Some c) step r cs (Ok tt)
chain_ends index c step r [] h = inl (h, refl)
chain_ends index c step r (d ∷ ds) h = inr (inr (h.0, h.1, chain_ends index c (step + 1) h.0 ds h.2))

-- a chain that comes to the stated clause has no fault
resolves_ends : (index : ℕ) (c : Lits) (cs : List Lits) → Resolves cs c → ChainFault index (Some c) cs (Ok tt)
resolves_ends index c [] h = absurd h
resolves_ends index c (r ∷ cs) h = chain_ends index c 1 r cs h

-- the clauses of the antecedents, by their indices or by their places
given_places : (g : ℕ → Option Lits) (h : ℕ → Lits) (is : List ℕ) → ((i : ℕ) → Has is i → g (place_with i) ≡ Some (h i))
    → all_given (map g (map place_with is)) ≡ Some (map h is)
given_places g h [] same = refl
given_places g h (i ∷ is) same =
    ap (λ o. given_with o (all_given (map g (map place_with is)))) (same i (inl refl))
    ∙ ap (given_with (Some (h i))) (given_places g h is (λ j m. same j (inr m)))

-- a derived clause has no fault where it follows from the clauses of its antecedents
fault_derived : (f : List Lits) (t : List Entry) (w k : ℕ) (ps : List ℕ) (cs : List Lits) (c : Lits) → ps ≢ []
    → antecedent_lits t k ≡ Some cs → stated_at t k ≡ Some c → Resolves cs c → FaultWith f t w k ps None
fault_derived f t w k [] cs c some given stated h = absurd (some refl)
fault_derived f t w k (p ∷ ps) cs c some given stated h =
    subst (λ o. DerivedFault t w k o None) (sym given) (
      Ok tt,
      subst (λ o. ChainFault (index_at t k) o cs (Ok tt)) (sym stated) (resolves_ends (index_at t k) c cs h),
      subst (λ o. None ≡ derived_fault_of t w k o (Ok tt)) (sym stated) refl,
    )

-- a chain has an antecedent
some_places : (g : ℕ → Lits) (is : List ℕ) (c : Lits) → Resolves (map g is) c → map place_with is ≢ []
some_places g [] c h = λ e. absurd h
some_places g (i ∷ is) c h = λ e. cc

-- what stands at a place is a member
pub Has-get_or : {X : Type 0} (xs : List X) (k : ℕ) (d : X) → k < length xs → Has xs (get_or xs k d)
Has-get_or [] k d lt = absurd (omega arith)
Has-get_or (x ∷ xs) zero d lt = inl refl
Has-get_or (x ∷ xs) (suc k) d lt = inr (Has-get_or xs k d (omega arith))

module _ (f : List Lits) (ds : List Derived) (w : ℕ) (ok : LogOk f ds) where
  -- the entry of a clause of the formula has no fault, since it states that clause
  original_right : (k : ℕ) → k < length f → FaultWith f (trace_of f ds) w k (antecedents_at (trace_of f ds) k) None
  original_right k lt =
      subst (λ ps. FaultWith f (trace_of f ds) w k ps None) (sym (ap antecedents_of (original_there f ds k lt)))
      (inl (
        (get_or f k [], Has-get_or f k [] lt, subst (λ o. SameSet (get_or f k []) (literals_in o)) (sym (ap stated_of (original_there f ds k lt))) (same_refl (get_or f k []))),
        refl,
      ))

  -- the entry of a derived clause has the clauses for antecedents that its indices name in the log
  given_there : (k p : ℕ) → k < length ds → p ≡ length f + k
      → antecedent_lits (trace_of f ds) p ≡ Some (map (clause_with f ds) (derived_at ds k).antecedents)
  given_there k p lt e =
      ap (λ ps. all_given (map (LitsOf (trace_of f ds)) ps)) (ap antecedents_of (derived_there f ds k p lt e))
      ∙ given_places (LitsOf (trace_of f ds)) (clause_with f ds) (derived_at ds k).antecedents
      (λ i h.
      let range = ok.earlier k i h in
      let low = range.0 in
      let high = range.1 in
      lits-trace_of f ds (place_with i) (omega arith) ∙ ap (λ n. Some (clause_with f ds n)) (let same : i - 1 + 1 ≡ i = omega arith in same))

  -- the entry of a derived clause has no fault, since the log's chain comes to it
  derived_right : (k p : ℕ) → k < length ds → p ≡ length f + k → FaultWith f (trace_of f ds) w p (antecedents_at (trace_of f ds) p) None
  derived_right k p lt e =
      let d = derived_at ds k in
      subst (λ ps. FaultWith f (trace_of f ds) w p ps None) (sym (ap antecedents_of (derived_there f ds k p lt e)))
      (fault_derived f (trace_of f ds) w p (map place_with d.antecedents) (map (clause_with f ds) d.antecedents) d.lits
      (some_places (clause_with f ds) d.antecedents d.lits (ok.resolves k lt))
      (given_there k p lt e) (ap stated_of (derived_there f ds k p lt e)) (ok.resolves k lt))

  -- so no entry of the trace has a fault
  pub trace_right : AllRightBefore f (trace_of f ds) w (length (trace_of f ds))
  trace_right k lt = elim (cases_lt k (length f)) [
    | inl first ↦ original_right k first
    | inr later ↦ derived_right (k - length f) k (omega (arith, length-trace_of f ds)) (omega arith)
  ]

  -- and where the last clause of the log is the empty one, the trace refutes the formula
  pub trace_refutes : EndsWithEmpty f ds → VerdictOf f (trace_of f ds) w Verdict.Refutes
  trace_refutes ends =
      let long = length-trace_of f ds in
      let some = ends.0 in
      let at : length (trace_of f ds) - 1 + 1 ≡ length f + length ds = omega arith in (
        trace_right,
        (
          (let more : 0 < length (trace_of f ds) = omega arith in more),
          lits-trace_of f ds (length (trace_of f ds) - 1) (omega arith) ∙ ap (λ n. Some (clause_with f ds n)) at ∙ ap Some ends.1,
        ),
      )
