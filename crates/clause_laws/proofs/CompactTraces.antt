-- A trace that refutes a list goes on doing so where derived clauses lose their literals to the sign.
use Rattle.std.proofs.Common.{◌≡◌, ◌≢◌, ℕ, zero, suc, ◌+◌, ◌-◌, ◌<◌, ◌≤◌, nat_lt, ◌&&◌, ◌⊎◌, inl, inr, Bool, true, false, if◌then◌else◌, List, [], ◌∷◌, length, map, slice_get, take, Option, Some, None, Ok, refl, sym, ◌∙◌, ap, subst, arith}
use Rattle.std.proofs.lemmas.Bool.{le-ltb, cases_lt}
use Rattle.clause_defs.specs.Clauses.{Lits, Has, HasClause, IsClause, IsOrdered}
use Rattle.clause_defs.specs.Traces.{Entry, IsTrace, stated_of, antecedents_of, stated_at, lits_at, antecedents_at, index_at, literals_in, AntecedentsAreEarlier}
use Rattle.clause_defs.specs.Compaction.{AllStated, has_antecedents, is_derived, any_derived, with_sign, compacted, derived_size, derived_literals}
use Rattle.clause_defs.specs.TraceClauses.{LitsOf, antecedent_lits, all_given, given_by, computed_size, computed_before}
use Rattle.clause_defs.specs.Verdicts.{ChainEnds, ChainFault, derived_fault_of, DerivedFault, FaultWith, AllRightBefore, EndsEmpty, VerdictOf}
use Rattle.clause_defs.specs.declared.verdict.Verdict.{Verdict}
use Rattle.clause_laws.proofs.Resolvents.{resolves-chain_of}
use Rattle.clause_laws.proofs.TraceLits.{map_same, lits_stated, lits_given, given_all}
use Rattle.clause_laws.proofs.Soundness.{original_with, resolves_with, derived_with, keep}

-- a chain that comes to the stated clause ends well without it
ends_unstated : (index : ℕ) (c : Lits) (step : ℕ) (r : Lits) (cs : List Lits)
    → ChainEnds index (Some c) step r cs (Ok tt) → ChainEnds index None step r cs (Ok tt)
ends_unstated index c step r [] h = refl
ends_unstated index c step r (d ∷ cs) (inl h) = inl h
ends_unstated index c step r (d ∷ cs) (inr (inl h)) = inr (inl h)
ends_unstated index c step r (d ∷ cs) (inr (inr h)) = inr (inr (h.0, h.1, ends_unstated index c (step + 1) h.0 cs h.2))

-- a chain that comes to what is stated has no fault where nothing is stated
fault_unstated : (index : ℕ) (c : Lits) (cs : List Lits) → ChainFault index (Some c) cs (Ok tt) → ChainFault index None cs (Ok tt)
fault_unstated index c [] h = h
fault_unstated index c (r ∷ cs) h = ends_unstated index c 1 r cs h

-- where a literal list is stated
there : (stated : Option Lits) → (stated ≡ None → ⊥) → stated ≡ Some (literals_in stated)
there None h = absurd (h refl)
there (Some c) h = refl

-- behind its end a trace has no clause
past_end : (t : List Entry) (k : ℕ) → length t ≤ k → slice_get t k ≡ None
past_end [] k le = refl
past_end (e ∷ es) zero le = absurd (omega arith)
past_end (e ∷ es) (suc k) le = past_end es k (omega arith)

-- behind its end a trace states no literals
past_stated : (t : List Entry) (k : ℕ) → length t ≤ k → stated_at t k ≡ Some []
past_stated t k le = ap stated_of (past_end t k le)

-- the trace u is t with the sign in place of the literals of some derived clauses
pub record IsCompaction (t u : List Entry) : Type 0 where
  pub as_long : length u ≡ length t
  pub indices : (k : ℕ) → index_at u k ≡ index_at t k
  pub antecedents : (k : ℕ) → antecedents_at u k ≡ antecedents_at t k
  pub stated : (k : ℕ) → (stated_at u k ≡ stated_at t k) ⊎ ((stated_at u k ≡ None) × (antecedents_at t k ≢ []))

-- ---- what is stated

-- an original that is there states its literals
original_stated : (f : List Lits) (t : List Entry) → IsTrace t → (k : ℕ) → antecedents_at t k ≡ [] → stated_at t k ≢ None
original_stated f t is k none sign = elim (cases_lt k (length t)) [
  | inl within ↦ is.derived k within sign none
  | inr past ↦ (let e = past_stated t k past in cc)
]

-- where the clauses before a place are right, each of them has literals
pub right_has_literals : (f : List Lits) (t : List Entry) (w n k : ℕ) → IsTrace t → AllRightBefore f t w n → k < n → LitsOf t k ≢ None
right_has_literals f t w n k is right lt =
    let own = keep f t w is.earlier (λ c. Unit {0}) (λ cs s h all. tt)
    (λ j h none. let o = original_stated f t is j none in (literals_in (stated_at t j), lits_stated t j (literals_in (stated_at t j)) (there (stated_at t j) o), tt)) n k right lt in
    λ e. let some = own.1 in cc

-- ---- how many literals derived clauses state

-- how many literals the clause states if it is derived; an absent one states none
derived_size_of : Option Entry → ℕ
derived_size_of None = 0
derived_size_of (Some e) = derived_size e

-- with antecedents, the literals of a clause count
sized : (ps : List ℕ) (n : ℕ) → ps ≢ [] → n ≤ (if has_antecedents ps then n else 0)
sized [] n ne = absurd (ne refl)
sized (p ∷ ps) n ne = omega arith

-- a derived clause counts all its stated literals
derived_size-le : (o : Option Entry) → antecedents_of o ≢ [] → length (literals_in (stated_of o)) ≤ derived_size_of o
unfolding derived_size_of
derived_size-le None ne = absurd (ne refl)
derived_size-le (Some e) ne = sized e.antecedents (length (literals_in e.stated)) ne

-- the derived literals up to behind clause k are those before it and its own
derived_take : (t : List Entry) (k : ℕ) → k < length t
    → derived_literals (take (suc k) t) ≡ derived_literals (take k t) + derived_size_of (slice_get t k)
unfolding derived_size_of
derived_take [] k lt = absurd (omega arith)
derived_take (e ∷ es) zero lt = omega arith
derived_take (e ∷ es) (suc k) lt = let rest = derived_take es k (omega arith) in omega arith

-- the first clauses state no more derived literals than all
derived_take-le : (t : List Entry) (k : ℕ) → derived_literals (take k t) ≤ derived_literals t
derived_take-le [] zero = omega arith
derived_take-le [] (suc k) = omega arith
derived_take-le (e ∷ es) zero = omega arith
derived_take-le (e ∷ es) (suc k) = let rest = derived_take-le es k in omega arith

-- ---- the trace with signs

module _ (f : List Lits) (t u : List Entry) (v : ℕ) (is : IsTrace t) (all : AllStated t) (right : AllRightBefore f t v (length t)) (comp : IsCompaction t u) where
  -- each clause of the trace states its literals
  t_stated : (k : ℕ) → stated_at t k ≡ Some (lits_at t k)
  t_stated k = there (stated_at t k) (elim (cases_lt k (length t)) [ inl within ↦ all k within | inr past ↦ λ e. (let p = past_stated t k past in cc) ])

  -- so the clauses of the trace are its stated ones
  t_lits : (k : ℕ) → LitsOf t k ≡ Some (lits_at t k)
  t_lits k = lits_stated t k (lits_at t k) (t_stated k)

  -- in the compacted trace too antecedents stand earlier
  u_earlier : AntecedentsAreEarlier u
  u_earlier k p i = is.earlier k p (subst (λ ps. Has ps p) (comp.antecedents k) i)

  -- the antecedents of each clause of the trace have literals
  t_given : (k : ℕ) → (cs : List Lits) × (antecedent_lits t k ≡ Some cs) × ((c : Lits) → Has cs c → Unit {0})
  t_given k = given_all (LitsOf t) (λ c. Unit {0}) (antecedents_at t k) (λ p i. (lits_at t p, t_lits p, tt))

  -- where earlier clauses are the same in both traces, so are antecedents
  antecedents_same : (k : ℕ) → ((p : ℕ) → p < k → LitsOf u p ≡ LitsOf t p) → antecedent_lits u k ≡ antecedent_lits t k
  antecedents_same k before =
      ap (λ ps. all_given (map (LitsOf u) ps)) (comp.antecedents k)
      ∙ ap all_given (map_same (LitsOf u) (LitsOf t) (antecedents_at t k) (λ p i. before p (is.earlier k p i)))

  -- the clauses before a bound are the same in both traces
  u_lits_below : (bound k : ℕ) → k < bound → k < length t → LitsOf u k ≡ LitsOf t k
  u_lits_below zero k below within = absurd (omega arith)
  u_lits_below (suc bound) k below within = elim (comp.stated k) [
    | inl same ↦ lits_stated u k (lits_at t k) (same ∙ t_stated k) ∙ sym (t_lits k)
    | inr sign ↦
        let given = t_given k in
        let own = resolves_with f t v k given.0 is.earlier (right k within) sign.1 given.1 in
        let same : lits_at t k ≡ own.0 = (let a = t_lits k in let b = own.1 in cc) in
        let ordered : IsOrdered own.0 = subst IsOrdered same (is.clauses k within).ordered in
        let antecedents = antecedents_same k (λ p lt. u_lits_below bound p (omega arith) (omega arith)) in
        lits_given u k u_earlier sign.0 ∙ ap given_by (antecedents ∙ given.1) ∙ resolves-chain_of given.0 own.0 own.2 ordered ∙ sym own.1
  ]

  -- each clause of the compacted trace is that of the trace
  pub u_lits : (k : ℕ) → k < length t → LitsOf u k ≡ LitsOf t k
  u_lits k within = u_lits_below (suc k) k (omega arith) within

  -- the antecedents of a clause are the same in both traces
  u_given : (k : ℕ) → k < length t → antecedent_lits u k ≡ Some (t_given k).0
  u_given k within = antecedents_same k (λ p lt. u_lits p (omega arith)) ∙ (t_given k).1

  -- a computed clause has as many literals as the trace states for it, at most
  u_size : (k : ℕ) → k < length t → computed_size (stated_at u k) (LitsOf u k) ≤ derived_size_of (slice_get t k)
  u_size k within = elim (comp.stated k) [
    | inl same ↦ subst (λ o. computed_size o (LitsOf u k) ≤ derived_size_of (slice_get t k)) (sym (same ∙ t_stated k)) (omega arith)
    | inr sign ↦
        subst (λ o. computed_size o (LitsOf u k) ≤ derived_size_of (slice_get t k)) (sym sign.0)
        (subst (λ o. computed_size None o ≤ derived_size_of (slice_get t k)) (sym (u_lits k within ∙ t_lits k))
        (derived_size-le (slice_get t k) sign.1))
  ]

  -- the computed clauses up to a place have no more literals than the derived ones state
  u_computed : (n : ℕ) → n ≤ length t → computed_before u n ≤ derived_literals (take n t)
  u_computed zero le = omega arith
  u_computed (suc k) le =
      let rest = u_computed k (omega arith) in
      let own = u_size k (omega arith) in
      let sum = derived_take t k (omega arith) in omega arith

  module _ (w : ℕ) (wide : derived_literals t ≤ w) where
    -- no computed clause is one too many
    u_narrow : (n : ℕ) → n ≤ length t → nat_lt w (computed_before u n) ≡ false
    u_narrow n le = le-ltb w (computed_before u n) (let a = u_computed n le in let b = derived_take-le t n in omega arith)

    -- the chain of a derived clause of the trace comes to the stated one
    t_end : (k : ℕ) → k < length t → antecedents_at t k ≢ [] → ChainFault (index_at t k) (Some (lits_at t k)) (t_given k).0 (Ok tt)
    t_end k within ne =
        subst (λ o. ChainFault (index_at t k) o (t_given k).0 (Ok tt)) (t_stated k)
        (derived_with f t v k (antecedents_at t k) (t_given k).0 ne (t_given k).1 (right k within))

    -- the chain of a derived clause of the compacted trace has no fault
    u_end : (k : ℕ) → k < length t → antecedents_at t k ≢ []
        → ChainFault (index_at u k) (stated_at u k) (t_given k).0 (Ok tt) × (None ≡ derived_fault_of u w k (stated_at u k) (Ok tt))
    u_end k within ne = elim (comp.stated k) [
      | inl same ↦
          let stated = sym (same ∙ t_stated k) in (
            subst (λ i. ChainFault i (stated_at u k) (t_given k).0 (Ok tt)) (sym (comp.indices k))
                (subst (λ o. ChainFault (index_at t k) o (t_given k).0 (Ok tt)) stated (t_end k within ne)),
            subst (λ o. None ≡ derived_fault_of u w k o (Ok tt)) stated refl,
          )
      | inr sign ↦ (
        subst (λ i. ChainFault i (stated_at u k) (t_given k).0 (Ok tt)) (sym (comp.indices k))
            (subst (λ o. ChainFault (index_at t k) o (t_given k).0 (Ok tt)) (sym sign.0)
            (fault_unstated (index_at t k) (lits_at t k) (t_given k).0 (t_end k within ne))),
        subst (λ o. None ≡ derived_fault_of u w k o (Ok tt)) (sym sign.0) (rw (u_narrow (k + 1) (omega arith)) refl),
      )
    ]

    -- a clause of the compacted trace has no fault, original or derived
    u_right_with : (k : ℕ) (ps : List ℕ) → k < length t → ps ≡ antecedents_at t k → FaultWith f u w k ps None
    u_right_with k [] within e = elim (comp.stated k) [
      | inl same ↦ inl (
        subst (λ o. HasClause f (literals_in o)) (sym same) (original_with f t v k (antecedents_at t k) (right k within) (sym e)),
        refl,
      )
      | inr sign ↦ absurd (sign.1 (sym e))
    ]
    u_right_with k (p ∷ ps) within e =
        let end = u_end k within (λ none. let both : p ∷ ps ≡ [] = e ∙ none in cc) in
        subst (λ o. DerivedFault u w k o None) (sym (u_given k within)) (Ok tt, end.0, end.1)

    -- no clause of the compacted trace has a fault
    pub u_right : AllRightBefore f u w (length u)
    u_right k lt =
        let within : k < length t = let long = comp.as_long in omega arith in
        subst (λ ps. FaultWith f u w k ps None) (sym (comp.antecedents k)) (u_right_with k (antecedents_at t k) within refl)

    -- where the trace ends with the empty clause, so does the compacted one
    pub u_ends : EndsEmpty t → EndsEmpty u
    u_ends ends =
        let long = comp.as_long in
        let last = u_lits (length t - 1) (let some = ends.0 in omega arith) in (
          (let some = ends.0 in omega arith),
          ap (λ n. LitsOf u (n - 1)) long ∙ last ∙ ends.1,
        )

-- ---- the sign for all derived clauses but the last

module _ (e : Entry) where
  -- a clause with the sign, or without, has the same index
  signed_index : (b : Bool) → (if b then with_sign e else e).index ≡ e.index
  signed_index true = refl
  signed_index false = refl

  -- a clause with the sign, or without, has the same antecedents
  signed_antecedents : (b : Bool) → (if b then with_sign e else e).antecedents ≡ e.antecedents
  signed_antecedents true = refl
  signed_antecedents false = refl

  -- a clause that takes the sign has antecedents
  derived_some : (ps : List ℕ) (b : Bool) → (has_antecedents ps && b) ≡ true → ps ≢ []
  derived_some [] b h = cc
  derived_some (p ∷ ps) b h = λ k. cc

  -- a clause states what it stated, or has antecedents and the sign
  signed_stated : (b c : Bool) → b ≡ (is_derived e && c)
      → ((if b then with_sign e else e).stated ≡ e.stated) ⊎ (((if b then with_sign e else e).stated ≡ None) × (e.antecedents ≢ []))
  signed_stated true c same = inr (refl, derived_some e.antecedents c (sym same))
  signed_stated false c same = inl refl

-- a compacted trace has as many clauses
compacted_long : (t : List Entry) → length (compacted t) ≡ length t
compacted_long [] = refl
compacted_long (e ∷ es) = let rest = compacted_long es in omega arith

-- a compacted trace has the same indices
compacted_index : (t : List Entry) (k : ℕ) → index_at (compacted t) k ≡ index_at t k
compacted_index [] k = refl
compacted_index (e ∷ es) zero = signed_index e (is_derived e && any_derived es)
compacted_index (e ∷ es) (suc k) = compacted_index es k

-- a compacted trace has the same antecedents
compacted_antecedents : (t : List Entry) (k : ℕ) → antecedents_at (compacted t) k ≡ antecedents_at t k
compacted_antecedents [] k = refl
compacted_antecedents (e ∷ es) zero = signed_antecedents e (is_derived e && any_derived es)
compacted_antecedents (e ∷ es) (suc k) = compacted_antecedents es k

-- a compacted trace states what the trace states, or a derived clause has the sign in place of it
compacted_stated : (t : List Entry) (k : ℕ)
    → (stated_at (compacted t) k ≡ stated_at t k) ⊎ ((stated_at (compacted t) k ≡ None) × (antecedents_at t k ≢ []))
compacted_stated [] k = inl refl
compacted_stated (e ∷ es) zero = signed_stated e (is_derived e && any_derived es) (any_derived es) refl
compacted_stated (e ∷ es) (suc k) = compacted_stated es k

-- the compacted trace is the trace with some signs
pub IsCompaction-compacted : (t : List Entry) → IsCompaction t (compacted t)
IsCompaction-compacted t = record {
  as_long = compacted_long t;
  indices = compacted_index t;
  antecedents = compacted_antecedents t;
  stated = compacted_stated t;
}

-- a compacted trace refutes what the trace refutes, where the computed clauses may have enough literals
pub compacted_refutes : (f : List Lits) (t : List Entry) (v w : ℕ) → IsTrace t → AllStated t
    → VerdictOf f t v Verdict.Refutes → derived_literals t ≤ w → VerdictOf f (compacted t) w Verdict.Refutes
compacted_refutes f t v w is all refutes wide =
    let comp = IsCompaction-compacted t in
    (u_right f t (compacted t) v is all refutes.0 comp w wide, u_ends f t (compacted t) v is all refutes.0 comp w wide refutes.1)

-- the clauses of a compacted trace are those of the trace that refutes
pub compacted_same : (f : List Lits) (t : List Entry) (v k : ℕ) → IsTrace t → AllStated t
    → VerdictOf f t v Verdict.Refutes → k < length t → LitsOf (compacted t) k ≡ LitsOf t k
compacted_same f t v k is all refutes within = u_lits f t (compacted t) v is all refutes.0 (IsCompaction-compacted t) k within

-- no literals are a clause
empty_clause : IsClause []
empty_clause = record { literals = λ l h. absurd h; ordered = tt }

-- the trace with some signs is a trace
pub IsTrace-compaction : (t u : List Entry) → IsCompaction t u → IsTrace t → IsTrace u
IsTrace-compaction t u comp is = record {
  earlier = λ k p i. is.earlier k p (subst (λ ps. Has ps p) (comp.antecedents k) i);
  clauses = λ k lt. let long = comp.as_long in elim (comp.stated k) [
    | inl same ↦ subst (λ o. IsClause (literals_in o)) (sym same) (is.clauses k (omega arith))
    | inr sign ↦ subst (λ o. IsClause (literals_in o)) (sym sign.0) empty_clause
  ];
  derived = λ k lt e none. let long = comp.as_long in elim (comp.stated k) [
    | inl same ↦ is.derived k (omega arith) (sym same ∙ e) (sym (comp.antecedents k) ∙ none)
    | inr sign ↦ sign.1 (sym (comp.antecedents k) ∙ none)
  ];
  low = λ k lt. let long = comp.as_long in let same = comp.indices k in let own = is.low k (omega arith) in omega arith;
  high = λ k lt. let long = comp.as_long in let same = comp.indices k in let own = is.high k (omega arith) in omega arith;
  distinct = λ j k below lt e. let long = comp.as_long in is.distinct j k below (omega arith) (sym (comp.indices j) ∙ e ∙ comp.indices k);
}

-- a compacted trace is a trace
pub IsTrace-compacted : (t : List Entry) → IsTrace t → IsTrace (compacted t)
IsTrace-compacted t is = IsTrace-compaction t (compacted t) (IsCompaction-compacted t) is
