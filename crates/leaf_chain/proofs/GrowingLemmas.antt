-- One more variable with a value keeps what an evaluation is.
use Rattle.std.proofs.Common.{◌≡◌, ◌≢◌, ℕ, ◌+◌, ◌<◌, ◌≤◌, inl, inr, Bool, false, not, List, [], ◌∷◌, ◌++◌, length, get_or, take, set, refl, sym, ◌∙◌, ap, subst, arith, length-append, length-set}
use Rattle.std.proofs.lemmas.Bool.{cases_lt}
use Rattle.std.proofs.lemmas.List.{get_or-set_other, get_or_append_left, take-append-le, take_all}
use Rattle.std.proofs.Math.Seq.{get_or-append_seam}
use Rattle.clause_defs.specs.Clauses.{Lits, Has}
use Rattle.chain_check.proofs.ClauseLists.{Has-snoc, Has-take}
use Rattle.log_laws.proofs.TraceOfLemmas.{Has-get_or}
use Rattle.leaf_defs.specs.Evaluated.{Evaluated, value_of, true_literal, false_literal, IsReason, IsEvaluated, variable_at, clause_numbered}
use Rattle.leaf_chain.specs.Growing.{IsWithout, with_chosen, with_implied}

-- nothing has a value yet
pub evaluated_empty : (f : List Lits) (values : List Bool) → IsEvaluated f (record { values = values; order = []; chosen = 0; reasons = [] })
evaluated_empty f values = record {
  within = λ v h. absurd h;
  distinct = λ i j less lt. absurd (omega arith);
  chosen_first = omega arith;
  chosen_ordered = λ i j less lt. absurd (omega arith);
  as_many = refl;
  numbers = λ i le lt. absurd (omega arith);
  reasons = λ i le lt. absurd (omega arith);
}

-- ---- what stands where, with one more

-- the earlier elements stay
before : (xs : List ℕ) (x i : ℕ) → i < length xs → get_or (xs ++ x ∷ []) i 0 ≡ get_or xs i 0
before xs x i lt = get_or_append_left xs (x ∷ []) 0 i lt

-- the new one stands behind them
last : (xs : List ℕ) (x i : ℕ) → i ≡ length xs → get_or (xs ++ x ∷ []) i 0 ≡ x
last xs x i e = ap (λ n. get_or (xs ++ x ∷ []) n 0) e ∙ get_or-append_seam xs x [] 0

module _ (f : List Lits) (e : Evaluated) (v : ℕ) (value : Bool) (evaluated : IsEvaluated f e) (without : IsWithout e v) where
  -- one variable more has a value
  longer : length (e.order ++ v ∷ []) ≡ length e.order + 1
  longer = length-append e.order (v ∷ [])

  -- there are as many places as before
  same_values : length (set e.values v value) ≡ length e.values
  same_values = length-set e.values v value

  -- the variables are within the places
  within_after : (u : ℕ) → Has (e.order ++ v ∷ []) u → (1 ≤ u) × (u < length (set e.values v value))
  within_after u h = elim ((Has-snoc e.order v u).0 h) [
    | inl old ↦ let range = evaluated.within u old in (range.0, let high = range.1 in omega (arith, same_values))
    | inr same ↦ (let low = without.low in omega arith, let high = without.high in omega (arith, same_values))
  ]

  -- a variable that has a value is another one
  other : (i : ℕ) → i < length e.order → variable_at e.order i ≢ v
  other i lt same = without.fresh (subst (Has e.order) same (Has-get_or e.order i 0 lt))

  -- and differ from each other
  distinct_after : (i j : ℕ) → i < j → j < length (e.order ++ v ∷ []) → variable_at (e.order ++ v ∷ []) i ≢ variable_at (e.order ++ v ∷ []) j
  distinct_after i j less lt same =
      let first : i < length e.order = omega (arith, longer) in
      elim (cases_lt j (length e.order)) [
        | inl below ↦ evaluated.distinct i j less below (sym (before e.order v i first) ∙ same ∙ before e.order v j below)
        | inr past ↦ other i first (sym (before e.order v i first) ∙ same ∙ last e.order v j (omega (arith, longer)))
      ]

  -- values of other variables stay
  value_kept : (u : ℕ) → u ≢ v → value_of (set e.values v value) u ≡ value_of e.values u
  value_kept u ne = get_or-set_other e.values v u value false ne

  -- so do their true literals
  true_kept : (u : ℕ) → u ≢ v → true_literal (set e.values v value) u ≡ true_literal e.values u
  true_kept u ne = ap (λ b. record { variable = u; positive = b }) (value_kept u ne)

  -- and their false ones
  false_kept : (u : ℕ) → u ≢ v → false_literal (set e.values v value) u ≡ false_literal e.values u
  false_kept u ne = ap (λ b. record { variable = u; positive = not b }) (value_kept u ne)

  -- a reason among variables that have a value stays one
  reason_kept : (known : List ℕ) (u : ℕ) (c : Lits) → u ≢ v → (Has known v → ⊥) → IsReason e.values known u c → IsReason (set e.values v value) known u c
  reason_kept known u c ne fresh h = record {
    implied = subst (Has c) (sym (true_kept u ne)) h.implied;
    others = λ l here different.
        let own = h.others l here (λ same. different (same ∙ sym (true_kept u ne))) in
        (own.0 ∙ sym (false_kept l.variable (λ same. fresh (subst (Has known) same own.1))), own.1);
  }

  -- the new variable isn't among the first ones
  fresh_in_take : (i : ℕ) → Has (take i e.order) v → ⊥
  fresh_in_take i h = without.fresh (Has-take e.order i v h)

  -- the first variables stay
  take_kept : (i : ℕ) → i ≤ length e.order → take i (e.order ++ v ∷ []) ≡ take i e.order
  take_kept i le = take-append-le i e.order (v ∷ []) le

  -- the variable was chosen
  pub evaluated_chosen : length e.order ≡ e.chosen → ((u : ℕ) → Has e.order u → u < v) → IsEvaluated f (with_chosen e v value)
  evaluated_chosen all lower = record {
    within = within_after;
    distinct = distinct_after;
    chosen_first = let first = evaluated.chosen_first in omega (arith, longer);
    chosen_ordered = λ i j less lt.
        let first : i < length e.order = omega arith in
        let own = before e.order v i first in
        elim (cases_lt j (length e.order)) [
          | inl below ↦ let next = before e.order v j below in let old = evaluated.chosen_ordered i j less (omega arith) in omega arith
          | inr past ↦ let next = last e.order v j (omega arith) in let old = lower (variable_at e.order i) (Has-get_or e.order i 0 first) in omega arith
        ];
    as_many = let many = evaluated.as_many in omega (arith, longer, length-append e.reasons (0 ∷ []));
    numbers = λ i le lt. absurd (omega (arith, longer));
    reasons = λ i le lt. absurd (omega (arith, longer));
  }

  -- the variable has a reason
  module _ (reason : ℕ) (low : 1 ≤ reason) (high : reason ≤ length f) (is_reason : IsReason (set e.values v value) e.order v (clause_numbered f reason)) where
    -- the variables with reasons, the new one among them, have the numbers of clauses
    numbers_after : (i : ℕ) → e.chosen ≤ i → i < length (e.order ++ v ∷ []) → (1 ≤ get_or (e.reasons ++ reason ∷ []) i 0) × (get_or (e.reasons ++ reason ∷ []) i 0 ≤ length f)
    numbers_after i le lt =
        let many = evaluated.as_many in
        elim (cases_lt i (length e.order)) [
          | inl below ↦
              let own = before e.reasons reason i (omega arith) in
              let old = evaluated.numbers i le below in
              let first = old.0 in
              let second = old.1 in (omega arith, omega arith)
          | inr past ↦ let own = last e.reasons reason i (omega (arith, longer)) in (omega arith, omega arith)
        ]

    -- and each of these clauses is the reason of its variable, by the variables before it
    reasons_after : (i : ℕ) → e.chosen ≤ i → i < length (e.order ++ v ∷ [])
        → IsReason (set e.values v value) (take i (e.order ++ v ∷ [])) (variable_at (e.order ++ v ∷ []) i) (clause_numbered f (get_or (e.reasons ++ reason ∷ []) i 0))
    reasons_after i le lt =
        let many = evaluated.as_many in
        elim (cases_lt i (length e.order)) [
          | inl below ↦
              let Own : List ℕ → ℕ → ℕ → Type 0 = λ known u number. IsReason (set e.values v value) known u (clause_numbered f number) in
              subst (λ known. Own known (variable_at (e.order ++ v ∷ []) i) (get_or (e.reasons ++ reason ∷ []) i 0)) (sym (take_kept i (omega arith)))
              (subst (λ u. Own (take i e.order) u (get_or (e.reasons ++ reason ∷ []) i 0)) (sym (before e.order v i below))
              (subst (λ n. Own (take i e.order) (variable_at e.order i) n) (sym (before e.reasons reason i (omega arith)))
              (reason_kept (take i e.order) (variable_at e.order i) (clause_numbered f (get_or e.reasons i 0)) (other i below) (fresh_in_take i) (evaluated.reasons i le below))))
          | inr past ↦
              let at : i ≡ length e.order = omega (arith, longer) in
              let Own : List ℕ → ℕ → ℕ → Type 0 = λ known u number. IsReason (set e.values v value) known u (clause_numbered f number) in
              subst (λ known. Own known (variable_at (e.order ++ v ∷ []) i) (get_or (e.reasons ++ reason ∷ []) i 0)) (sym (take_kept i (omega arith) ∙ take_all i e.order (omega arith)))
              (subst (λ u. Own e.order u (get_or (e.reasons ++ reason ∷ []) i 0)) (sym (last e.order v i at))
              (subst (λ n. Own e.order v n) (sym (last e.reasons reason i (omega arith))) is_reason))
        ]

    -- so the evaluation keeps its rules with this variable and its reason
    pub evaluated_implied : IsEvaluated f (with_implied e v value reason)
    evaluated_implied = record {
      within = within_after;
      distinct = distinct_after;
      chosen_first = let first = evaluated.chosen_first in omega (arith, longer);
      chosen_ordered = λ i j less lt.
          let first = evaluated.chosen_first in
          let own = before e.order v i (omega arith) in
          let next = before e.order v j (omega arith) in
          let old = evaluated.chosen_ordered i j less lt in omega arith;
      as_many = let many = evaluated.as_many in omega (arith, longer, length-append e.reasons (reason ∷ []));
      numbers = numbers_after;
      reasons = reasons_after;
    }
