-- What forgotten clauses are owed.
use Rattle.std.proofs.Common.{◌≡◌, ℕ, zero, suc, ◌+◌, ◌<◌, ◌≤◌, List, [], ◌∷◌, ◌++◌, length, set, get_or, refl, sym, ap, ◌∙◌, arith}
use Rattle.std.proofs.lemmas.List.Sums.{sum_by-set, sum_by_push}
use Rattle.clause_defs.specs.Clauses.{Lits}
use Rattle.log_defs.specs.Logs.{Derived, derived_at}
use Rattle.search_defs.specs.declared.standing.Standing.{Standing}
use Rattle.search_defs.specs.declared.standing.Standing.TheVariants.{Learned, Forgotten, Back}
use Rattle.search_defs.specs.Solving.{owed, owed_words, forgotten_of, never_back, never_back_of}

-- one more learned clause is owed nothing
pub owed_learned : (ds : List Derived) (ss : List Standing) (d : Derived) → length ss ≡ length ds
    → owed_words (ds ++ d ∷ []) (ss ++ Learned ∷ []) ≡ owed_words ds ss
owed_learned [] [] d e = refl
owed_learned [] (s ∷ ss) d e = absurd (omega arith)
owed_learned (x ∷ ds) [] d e = absurd (omega arith)
owed_learned (x ∷ ds) (s ∷ ss) d e = ap (λ n. owed (length x.lits) s + n) (owed_learned ds ss d (omega arith))

-- one clause stands otherwise
pub owed_set : (ds : List Derived) (ss : List Standing) (k : ℕ) (s : Standing) → k < length ds → k < length ss
    → owed_words ds (set ss k s) + owed (length (derived_at ds k).lits) (get_or ss k Back)
    ≡ owed_words ds ss + owed (length (derived_at ds k).lits) s
owed_set [] ss k s lt le = absurd (omega arith)
owed_set (x ∷ ds) [] k s lt le = absurd (omega arith)
owed_set (x ∷ ds) (t ∷ ss) zero s lt le =
    let after : owed_words (x ∷ ds) (set (t ∷ ss) zero s) ≡ owed (length x.lits) s + owed_words ds ss = refl in
    let before : owed_words (x ∷ ds) (t ∷ ss) ≡ owed (length x.lits) t + owed_words ds ss = refl in omega arith
owed_set (x ∷ ds) (t ∷ ss) (suc k) s lt le =
    let rest = owed_set ds ss k s (omega arith) (omega arith) in
    let after : owed_words (x ∷ ds) (set (t ∷ ss) (suc k) s) ≡ owed (length x.lits) t + owed_words ds (set ss k s) = refl in
    let before : owed_words (x ∷ ds) (t ∷ ss) ≡ owed (length x.lits) t + owed_words ds ss = refl in omega arith

-- the one at place k, which stood so, is forgotten
module _ (ds : List Derived) (ss : List Standing) (k : ℕ) (inside : k < length ds) (within : k < length ss) where
  pub owed_forgotten : (c : Lits) → (derived_at ds k).lits ≡ c → get_or ss k Back ≡ Learned → owed_words ds (set ss k Forgotten) ≡ owed_words ds ss + length c
  owed_forgotten c is stood =
      let all = owed_set ds ss k Forgotten inside within in
      let none : owed (length (derived_at ds k).lits) (get_or ss k Back) ≡ 0 = ap (owed (length (derived_at ds k).lits)) stood in
      let long : length (derived_at ds k).lits ≡ length c = ap (λ (ls : Lits). length ls) is in
      let some : owed (length (derived_at ds k).lits) Forgotten ≡ length (derived_at ds k).lits = refl in omega arith

  -- or comes back
  pub owed_back : (c : Lits) → (derived_at ds k).lits ≡ c → get_or ss k Back ≡ Forgotten → owed_words ds (set ss k Back) + length c ≡ owed_words ds ss
  owed_back c is stood =
      let all = owed_set ds ss k Back inside within in
      let some : owed (length (derived_at ds k).lits) (get_or ss k Back) ≡ length (derived_at ds k).lits = ap (owed (length (derived_at ds k).lits)) stood in
      let long : length (derived_at ds k).lits ≡ length c = ap (λ (ls : Lits). length ls) is in
      let none : owed (length (derived_at ds k).lits) Back ≡ 0 = refl in omega arith

-- the same of how many are forgotten, and how many were never put back
pub forgotten_learned : (ss : List Standing) → forgotten_of (ss ++ Learned ∷ []) ≡ forgotten_of ss
forgotten_learned ss = let all = sum_by_push (owed 1) ss Learned in let none : owed 1 Learned ≡ 0 = refl in omega arith

pub never_back_learned : (ss : List Standing) → never_back_of (ss ++ Learned ∷ []) ≡ never_back_of ss + 1
never_back_learned ss = let all = sum_by_push never_back ss Learned in let one : never_back Learned ≡ 1 = refl in omega arith

module _ (ss : List Standing) (k : ℕ) (within : k < length ss) where
  pub forgotten_more : get_or ss k Back ≡ Learned → forgotten_of (set ss k Forgotten) ≡ forgotten_of ss + 1
  forgotten_more stood =
      let all = sum_by-set (owed 1) ss k Forgotten Back within in
      let none : owed 1 (get_or ss k Back) ≡ 0 = ap (owed 1) stood in
      let some : owed 1 Forgotten ≡ 1 = refl in omega arith

  pub forgotten_less : get_or ss k Back ≡ Forgotten → forgotten_of (set ss k Back) + 1 ≡ forgotten_of ss
  forgotten_less stood =
      let all = sum_by-set (owed 1) ss k Back Back within in
      let some : owed 1 (get_or ss k Back) ≡ 1 = ap (owed 1) stood in
      let none : owed 1 Back ≡ 0 = refl in omega arith

  pub never_back_same : get_or ss k Back ≡ Learned → never_back_of (set ss k Forgotten) ≡ never_back_of ss
  never_back_same stood =
      let all = sum_by-set never_back ss k Forgotten Back within in
      let one : never_back (get_or ss k Back) ≡ 1 = ap never_back stood in
      let again : never_back Forgotten ≡ 1 = refl in omega arith

  pub never_back_less : get_or ss k Back ≡ Forgotten → never_back_of (set ss k Back) + 1 ≡ never_back_of ss
  never_back_less stood =
      let all = sum_by-set never_back ss k Back Back within in
      let one : never_back (get_or ss k Back) ≡ 1 = ap never_back stood in
      let none : never_back Back ≡ 0 = refl in omega arith
