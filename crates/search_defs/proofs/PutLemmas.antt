-- A search goes back, and its trail takes a clause of the log.
use Rattle.std.proofs.Common.{◌≡◌, ◌≢◌, ℕ, zero, suc, ◌+◌, ◌<◌, ◌≤◌, List, length, set, get_or, sum_by, Option, Some, None, inl, inr, refl, sym, ap, ◌∙◌, subst, arith, length-set, get_or-set_same, get_or-set_other}
use Rattle.std.proofs.lemmas.Bool.{cases_eq}
use Rattle.std.proofs.lemmas.List.Sums.{sum_by-set}
use Rattle.clause_defs.specs.Literals.{Literal}
use Rattle.clause_defs.specs.Clauses.{Lits}
use Rattle.log_defs.specs.Logs.{LogValue, IsIndexOf, clause_of_log}
use Rattle.pch_region.specs.Blocks.{size, one}
use Rattle.trail_defs.specs.Trails.{Assigned, clause_at, IsTrail}
use Rattle.settled_levels.specs.Levels.{IsSettledBelow, IsTaught, IsOpenBelow}
use Rattle.settled_levels.proofs.FrontLemmas.{open_back}
use Rattle.settled_levels.proofs.KeepLemmas.{settled_back, settled_learned}
use Rattle.settled_levels.proofs.LevelLemmas.{taught_is_open}
use Rattle.search_defs.specs.Solving.{Solving, Knows, IsLive, HasLearned}

-- the clause of another number stays
pub clause_other : (cs : List (Option Lits)) (j : ℕ) (o : Option Lits) (n : ℕ) → n ≢ suc j → clause_at (set cs j o) n ≡ clause_at cs n
clause_other cs j o zero ne = refl
clause_other cs j o (suc m) ne = get_or-set_other cs j m o None (λ e. ne (ap suc e))

-- the search went back to level b, and its trail took the clause as number j + 1
module _ (s : Solving) (c : Lits) (b j : ℕ) (now : Assigned) (learned : HasLearned b c s.trail j now) where
  clauses_are : now.clauses ≡ set s.trail.clauses j (Some c)
  clauses_are = learned.clauses ∙ ap (λ cs. set cs j (Some c)) learned.same.clauses

  was_inside : j < length s.trail.clauses
  was_inside = subst (λ (cs : List (Option Lits)). j < length cs) learned.same.clauses learned.inside

  was_fresh : get_or s.trail.clauses j None ≡ None
  was_fresh = ap (λ cs. get_or cs j None) (sym learned.same.clauses) ∙ learned.fresh

  -- there are as many places
  pub places_stay : length now.clauses ≡ length s.trail.clauses
  places_stay = ap (λ (cs : List (Option Lits)). length cs) clauses_are ∙ length-set s.trail.clauses j (Some c)

  at_new : clause_at now.clauses (suc j) ≡ Some c
  at_new = ap (λ cs. get_or cs j None) clauses_are ∙ get_or-set_same s.trail.clauses j (Some c) None was_inside

  at_other : (n : ℕ) → n ≢ suc j → clause_at now.clauses n ≡ clause_at s.trail.clauses n
  at_other n ne = ap (λ cs. clause_at cs n) clauses_are ∙ clause_other s.trail.clauses j (Some c) n ne

  -- the words and the clauses are more by its own
  pub words_more : sum_by size now.clauses ≡ sum_by size s.trail.clauses + length c
  words_more =
      let held = ap (λ os. sum_by size os) clauses_are in
      let more = sum_by-set size s.trail.clauses j (Some c) None was_inside in
      let none = ap size was_fresh in omega arith

  pub blocks_more : sum_by one now.clauses ≡ sum_by one s.trail.clauses + 1
  blocks_more =
      let held = ap (λ os. sum_by one os) clauses_are in
      let more = sum_by-set one s.trail.clauses j (Some c) None was_inside in
      let none = ap one was_fresh in omega arith

  -- its index stands at its number
  module _ (index : ℕ) (long : length s.trail.clauses < length s.indices) where
    index_new : get_or (set s.indices (suc j) index) (suc j) 0 ≡ index
    index_new = get_or-set_same s.indices (suc j) index 0 (let a = was_inside in omega arith)

    index_other : (n : ℕ) → n ≢ suc j → get_or (set s.indices (suc j) index) n 0 ≡ get_or s.indices n 0
    index_other n ne = get_or-set_other s.indices (suc j) n index 0 ne

    pub live_new : IsLive now (set s.indices (suc j) index) index
    live_new = (suc j, c, at_new, index_new)

    -- what was live is live
    pub live_other : (i : ℕ) → IsLive s.trail s.indices i → IsLive now (set s.indices (suc j) index) i
    live_other i live =
        let ne : live.0 ≢ suc j = λ e. (
        let none : clause_at s.trail.clauses live.0 ≡ None = ap (λ m. clause_at s.trail.clauses m) e ∙ was_fresh in
        let some = live.2 in absurd (cc)
        ) in
        (live.0, live.1, at_other live.0 ne ∙ live.2, index_other live.0 ne ∙ live.3)

    -- each live clause is one of the log, if those that were are, and the new one is
    pub knows_put : (log later : LogValue) → later.originals.variables ≡ log.originals.variables
        → ((i : ℕ) → IsIndexOf log i → IsIndexOf later i × (clause_of_log later i ≡ clause_of_log log i))
        → IsIndexOf later index → clause_of_log later index ≡ c → Knows log s.trail s.indices → Knows later now (set s.indices (suc j) index)
    knows_put log later same old there is knows = record {
      over = learned.values.variables ∙ learned.same.variables ∙ knows.over ∙ sym same;
      size = let a = length-set s.indices (suc j) index in let e = places_stay in omega arith;
      known = λ n e live. elim (cases_eq n (suc j)) [
        | inl new ↦
            let own : Some c ≡ Some e = sym at_new ∙ ap (λ m. clause_at now.clauses m) (sym new) ∙ live in
            let lits : c ≡ e = cc in
            let place : get_or (set s.indices (suc j) index) n 0 ≡ index = ap (λ m. get_or (set s.indices (suc j) index) m 0) new ∙ index_new in (
              subst (IsIndexOf later) (sym place) there,
              ap (λ i. clause_of_log later i) place ∙ is ∙ lits,
            )
        | inr ne ↦
            let own = knows.known n e (sym (at_other n ne) ∙ live) in
            let place = index_other n ne in
            let kept = old (get_or s.indices n 0) own.0 in (
              subst (IsIndexOf later) (sym place) kept.0,
              ap (λ i. clause_of_log later i) place ∙ kept.1 ∙ own.1,
            )
      ];
    }

  -- where a conflict taught it, the levels stay settled
  module _ (known : IsTrail s.trail) (u : Literal) (taught : IsTaught s.trail c u b) where
    open_now : IsOpenBelow learned.back c
    open_now = open_back s.trail learned.back b learned.up learned.levels c learned.present (λ a n less front. taught_is_open s.trail known c u b taught a n less front)

    pub settled_put : IsSettledBelow s.trail → IsSettledBelow now
    settled_put settled =
        settled_learned learned.back now j c learned.values learned.clauses learned.inside open_now
        (settled_back s.trail learned.back b learned.up learned.levels learned.present learned.same.clauses (let lower = taught.lower in omega arith) settled)
