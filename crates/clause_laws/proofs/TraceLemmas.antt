-- A trace with one more clause is a trace.
use Rattle.std.proofs.Common.{◌≡◌, ◌≢◌, ℕ, zero, suc, ◌+◌, ◌<◌, ◌≤◌, ◌⊎◌, inl, inr, List, [], ◌∷◌, ◌++◌, length, map, slice_get, Option, Some, None, refl, sym, ap, ◌∙◌, subst, arith, length-append}
use Rattle.std.proofs.lemmas.Bool.{cases_order}
use Rattle.std.proofs.lemmas.Option.{slice_get_past}
use Rattle.clause_defs.specs.declared.verdict.TheConstants.{MAX_INDEX}
use Rattle.clause_defs.specs.Clauses.{Has, IsClause}
use Rattle.clause_defs.specs.Traces.{Entry, IsTrace, IsCompactAt, stated_of, literals_in, lits_at, antecedents_of, antecedents_at, index_of, index_at}

-- ---- lists with one more element

-- what stood at a place stands there still
pub slice_get-before : {X : Type 0} (xs : List X) (y : X) (k : ℕ) → k < length xs → slice_get (xs ++ y ∷ []) k ≡ slice_get xs k
slice_get-before [] y k lt = absurd (omega arith)
slice_get-before (x ∷ xs) y zero lt = refl
slice_get-before (x ∷ xs) y (suc k) lt = slice_get-before xs y k (omega arith)

-- the new element stands last
pub slice_get-last : {X : Type 0} (xs : List X) (y : X) (k : ℕ) → k ≡ length xs → slice_get (xs ++ y ∷ []) k ≡ Some y
slice_get-last [] y zero e = refl
slice_get-last [] y (suc k) e = absurd (omega arith)
slice_get-last (x ∷ xs) y zero e = absurd (omega arith)
slice_get-last (x ∷ xs) y (suc k) e = slice_get-last xs y k (omega arith)

-- a member of the longer list is an old one or the new one
pub Has-snoc : {X : Type 0} (xs : List X) (y x : X) → Has (xs ++ y ∷ []) x → Has xs x ⊎ (y ≡ x)
Has-snoc [] y x (inl e) = inr e
Has-snoc [] y x (inr h) = absurd h
Has-snoc (z ∷ zs) y x (inl e) = inl (inl e)
Has-snoc (z ∷ zs) y x (inr h) = elim (Has-snoc zs y x h) [ inl k ↦ inl (inr k) | inr k ↦ inr k ]

-- ---- places

-- places in the trace
abbrev pub AreWithin : List Entry → List ℕ → Type 0
AreWithin t ps = (p : ℕ) → Has ps p → p < length t

-- a clause has the same index in the longer trace
pub index_at-before : (t : List Entry) (e : Entry) (p : ℕ) → p < length t → index_at t p ≡ index_at (t ++ e ∷ []) p
index_at-before t e p lt = ap index_of (sym (slice_get-before t e p lt))

-- clauses have the same indices in the longer trace
pub indices-before : (t : List Entry) (e : Entry) (ps : List ℕ) → AreWithin t ps → map (index_at t) ps ≡ map (index_at (t ++ e ∷ [])) ps
indices-before t e [] h = refl
indices-before t e (p ∷ ps) h =
    let first : index_at t p ≡ index_at (t ++ e ∷ []) p = index_at-before t e p (h p (inl refl)) in
    let rest : map (index_at t) ps ≡ map (index_at (t ++ e ∷ [])) ps = indices-before t e ps (λ q i. h q (inr i)) in
    ap (λ (n : ℕ). n ∷ map (index_at t) ps) first ∙ ap (λ (ns : List ℕ). index_at (t ++ e ∷ []) p ∷ ns) rest

-- the antecedents of a clause are clauses of the trace
own_within : (t : List Entry) → IsTrace t → (k p : ℕ) → Has (antecedents_at t k) p → (k < length t) ⊎ (length t ≤ k) → p < length t
own_within t h k p i (inl lt) = let below : p < k = h.earlier k p i in omega arith
own_within t h k p i (inr past) = absurd (subst (λ o. Has (antecedents_of o) p) (slice_get_past t k past) i)

-- a place is before the end or past it
below_or_past : (k n : ℕ) → (k < n) ⊎ (n ≤ k)
below_or_past k n = grind arith

-- the antecedents of a clause are places in the trace
pub within_own : (t : List Entry) → IsTrace t → (k : ℕ) → AreWithin t (antecedents_at t k)
within_own t h k p i = own_within t h k p i (below_or_past k (length t))

-- ---- the new clause

-- what the new clause of a trace must be
pub record CanFollow (t : List Entry) (e : Entry) : Type 0 where
  pub low : 1 ≤ e.index
  pub high : e.index ≤ MAX_INDEX
  pub other : (k : ℕ) → k < length t → index_at t k ≢ e.index
  pub clause : IsClause (literals_in e.stated)
  pub derived : e.stated ≡ None → e.antecedents ≢ []
  pub earlier : AreWithin t e.antecedents

-- with a clause that can follow, antecedents still stand earlier
earlier_after : (t : List Entry) (e : Entry) → IsTrace t → CanFollow t e → (k p : ℕ) → Has (antecedents_at (t ++ e ∷ []) k) p → p < k
earlier_after t e h new k p i =
    elim (cases_order k (length t)) [
      | inl at ↦ let one = new.earlier p (subst (λ o. Has (antecedents_of o) p) (slice_get-last t e k at) i) in omega arith
      | inr (inl before) ↦ h.earlier k p (subst (λ o. Has (antecedents_of o) p) (slice_get-before t e k before) i)
      | inr (inr past) ↦ absurd (subst (λ o. Has (antecedents_of o) p) (slice_get_past (t ++ e ∷ []) k (omega (arith, length-append t (e ∷ [])))) i)
    ]

-- a fact of the clause at a place is one of the old clause there, or of the new one
pub each_after : (P : Option Entry → Type 0) (t : List Entry) (e : Entry) → ((k : ℕ) → k < length t → P (slice_get t k)) → P (Some e)
    → (k : ℕ) → k < length (t ++ e ∷ []) → P (slice_get (t ++ e ∷ []) k)
each_after P t e h new k lt =
    elim (cases_order k (length t)) [
      | inl at ↦ subst P (sym (slice_get-last t e k at)) new
      | inr (inl before) ↦ subst P (sym (slice_get-before t e k before)) (h k before)
      | inr (inr past) ↦ absurd (omega (arith, length-append t (e ∷ [])))
    ]

-- the index at a place is an old one or the new one
index_after : (t : List Entry) (e : Entry) (k : ℕ) → k < length (t ++ e ∷ [])
    → ((k < length t) × (index_at (t ++ e ∷ []) k ≡ index_at t k)) ⊎ ((k ≡ length t) × (index_at (t ++ e ∷ []) k ≡ e.index))
index_after t e k lt =
    elim (cases_order k (length t)) [
      | inl at ↦ inr (at, ap index_of (slice_get-last t e k at))
      | inr (inl before) ↦ inl (before, ap index_of (slice_get-before t e k before))
      | inr (inr past) ↦ absurd (omega (arith, length-append t (e ∷ [])))
    ]

-- with a clause that can follow, indices are still distinct
distinct_after : (t : List Entry) (e : Entry) → IsTrace t → CanFollow t e → (j k : ℕ) → j < k → k < length (t ++ e ∷ [])
    → index_at (t ++ e ∷ []) j ≢ index_at (t ++ e ∷ []) k
distinct_after t e h new j k lt within same =
    elim (index_after t e k within) [
      | inl old ↦ elim (index_after t e j (omega arith)) [
        | inl first ↦ h.distinct j k lt old.0 (sym first.1 ∙ same ∙ old.1)
        | inr last ↦ absurd (omega (arith, last.0, old.0))
      ]
      | inr one ↦ elim (index_after t e j (omega arith)) [
        | inl first ↦ new.other j first.0 (sym first.1 ∙ same ∙ one.1)
        | inr last ↦ absurd (omega (arith, last.0, one.0))
      ]
    ]

-- a trace with one more clause that can follow is a trace
pub IsTrace-push : (t : List Entry) (e : Entry) → IsTrace t → CanFollow t e → IsTrace (t ++ e ∷ [])
IsTrace-push t e h new = record {
  earlier = earlier_after t e h new;
  clauses = each_after (λ o. IsClause (literals_in (stated_of o))) t e h.clauses new.clause;
  derived = each_after (λ o. stated_of o ≡ None → antecedents_of o ≢ []) t e h.derived new.derived;
  low = each_after (λ o. 1 ≤ index_of o) t e h.low new.low;
  high = each_after (λ o. index_of o ≤ MAX_INDEX) t e h.high new.high;
  distinct = distinct_after t e h new;
}

-- no clauses are a trace
pub IsTrace-empty : IsTrace []
IsTrace-empty = record {
  earlier = λ k p h. absurd (subst (λ o. Has (antecedents_of o) p) (slice_get_past [] k (omega arith)) h);
  clauses = λ k lt. absurd (omega arith);
  derived = λ k lt. absurd (omega arith);
  low = λ k lt. absurd (omega arith);
  high = λ k lt. absurd (omega arith);
  distinct = λ j k lt within. absurd (omega arith);
}
