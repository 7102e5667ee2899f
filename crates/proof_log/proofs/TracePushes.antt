-- The trace of a log, clause after clause.
use Rattle.std.proofs.Common.{◌≡◌, ℕ, zero, suc, ◌+◌, ◌-◌, ◌<◌, ◌≤◌, inl, inr, List, [], ◌∷◌, ◌++◌, length, map, take, slice_get, Some, refl, sym, ◌∙◌, ap, subst, arith, add-one}
use Rattle.std.proofs.lemmas.List.{length-take-le}
use Rattle.std.proofs.lemmas.Option.{slice_get_within}
use Rattle.clause_defs.specs.Clauses.{Lits, Has}
use Rattle.clause_defs.specs.Traces.{Entry, index_at}
use Rattle.clause_laws.proofs.ClauseLemmas.{Has-map}
use Rattle.log_defs.specs.Logs.{Derived, derived_at, LogOk}
use Rattle.log_defs.specs.LogTraces.{place_with, original_entry, derived_entry, trace_of}
use Rattle.log_laws.proofs.TraceOfLemmas.{length-trace_of, index_at-trace_of, trace_of-original, trace_of-derived}
use Rattle.proof_log.specs.Kept.{derived_of, AreSideBySide}
use Rattle.proof_log.proofs.KeptLemmas.{length-derived_of, derived_there, derived_at-there}

-- one element more
take_suc : {X : Type 0} (xs : List X) (k : ℕ) (x : X) → slice_get xs k ≡ Some x → take (suc k) xs ≡ take k xs ++ x ∷ []
take_suc [] k x e = absurd (cc)
take_suc (y ∷ ys) zero x e = cc
take_suc (y ∷ ys) (suc k) x e = ap (λ zs. y ∷ zs) (take_suc ys k x e)

-- the same, where one is added to the number of elements
take_one_more : {X : Type 0} (xs : List X) (k : ℕ) (x : X) → slice_get xs k ≡ Some x → take (k + 1) xs ≡ take k xs ++ x ∷ []
take_one_more xs k x e = rw add-one (take_suc xs k x e)

-- no clause of the trace has the next index
pub other_index : (t : List Entry) (f : List Lits) (ds : List Derived) (j : ℕ) → t ≡ trace_of f ds → j ≡ length f + length ds + 1
    → (k : ℕ) → k < length t → index_at t k ≡ j → ⊥
other_index t f ds j e next k lt same =
    let long : length t ≡ length f + length ds = ap length e ∙ length-trace_of f ds in
    let own : index_at t k ≡ k + 1 = ap (λ u. index_at u k) e ∙ index_at-trace_of f ds k (omega arith) in
    omega arith

-- with one more clause of the formula
pub original_more : (f : List Lits) (k : ℕ) (c : Lits) (j : ℕ) → slice_get f k ≡ Some c → j ≡ k + 1
    → trace_of (take (k + 1) f) [] ≡ trace_of (take k f) [] ++ original_entry j c ∷ []
original_more f k c j here e =
    let lt = slice_get_within f k c here in
    ap (λ g. trace_of g []) (take_one_more f k c here)
    ∙ trace_of-original (take k f) c j (let long = length-take-le k f (omega arith) in omega arith)

-- with one more derived clause
pub derived_more : (f : List Lits) (ds : List Derived) (k : ℕ) (d : Derived) (j : ℕ) → slice_get ds k ≡ Some d → j ≡ length f + k + 1
    → trace_of f (take (k + 1) ds) ≡ trace_of f (take k ds) ++ derived_entry j d ∷ []
derived_more f ds k d j here e =
    let lt = slice_get_within ds k d here in
    ap (trace_of f) (take_one_more ds k d here)
    ∙ trace_of-derived f (take k ds) d j (let long = length-take-le k ds (omega arith) in omega arith)

module _ (f : List Lits) (cs : List Lits) (ants : List (List ℕ)) (kept : AreSideBySide f cs ants) where
  -- the indices of a clause's antecedents
  pub own_indices : (k : ℕ) (c : Lits) (a : List ℕ) → slice_get cs k ≡ Some c → slice_get ants k ≡ Some a
      → (index : ℕ) → Has a index → (1 ≤ index) × (index ≤ length f + k)
  own_indices k c a here there index h =
      kept.ok.earlier k index (subst (λ (d : Derived). Has d.antecedents index) (sym (derived_at-there cs ants k c a here there)) h)

  -- their places come before the clause
  pub own_places : (k : ℕ) (c : Lits) (a : List ℕ) → slice_get cs k ≡ Some c → slice_get ants k ≡ Some a
      → (p : ℕ) → Has (map place_with a) p → p < length f + k
  own_places k c a here there p h =
      let from = Has-map place_with a p h in
      let range = own_indices k c a here there from.0 from.1 in
      let low = range.0 in
      let high = range.1 in
      let same = from.2 in omega arith

  -- how many derived clauses the first k are
  pub long_take : (k : ℕ) → k ≤ length cs → length (take k (derived_of cs ants)) ≡ k
  long_take k le = length-take-le k (derived_of cs ants) (omega (arith, length-derived_of cs ants kept.as_many))
