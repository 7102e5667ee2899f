-- The search forgets a clause that it learned.
use Rattle.std.proofs.Common.{◌≡◌, ◌≢◌, ◌⊎◌, ℕ, suc, ◌+◌, ◌-◌, ◌*◌, ◌<◌, ◌≤◌, List, length, set, get_or, sum_by, Option, Some, None, inl, inr, refl, sym, ap, ◌∙◌, subst, arith, length-set, get_or-set_same}
use Rattle.std.proofs.lemmas.Bool.{cases_eq, cases_lt}
use Rattle.std.proofs.lemmas.List.{get_or_past}
use Rattle.std.proofs.lemmas.List.Sums.{sum_by-set}
use Rattle.clause_defs.specs.Literals.{Literal}
use Rattle.clause_defs.specs.Clauses.{Lits, WithinVariables}
use Rattle.log_defs.specs.Logs.{LogValue, IsIndexOf, clause_of_log}
use Rattle.pch_region.specs.Blocks.{size, one}
use Rattle.trail_defs.specs.Trails.{Assigned, clause_at, IsTrail, HasSameValues}
use Rattle.settled_levels.proofs.KeepLemmas.{settled_fewer}
use Rattle.search_defs.specs.declared.standing.Standing.{Standing}
use Rattle.search_defs.specs.declared.standing.Standing.TheVariants.{Learned, Forgotten, Back}
use Rattle.search_defs.specs.Solving.{Solving, IsLive, StandsAs, derived_place, IsForgotten, IsSolving}
use Rattle.search_defs.proofs.BackLemmas.{place_inside, stands_clause, forgotten_other}
use Rattle.search_defs.proofs.OwedLemmas.{owed_forgotten, forgotten_more}
use Rattle.search_defs.proofs.PutLemmas.{clause_other}
use Rattle.search_defs.proofs.ReasonLemmas.{number_within}

-- the trail took the clause number j + 1 away, which is a learned one
module _ (log : LogValue) (s : Solving) (solving : IsSolving log s) (known : IsTrail s.trail) (c : Lits) (j : ℕ) (now : Assigned)
    (live : clause_at s.trail.clauses (suc j) ≡ Some c) (stands : StandsAs log s.standings (get_or s.indices (suc j) 0) Learned)
    (clauses : now.clauses ≡ set s.trail.clauses j None) (values : HasSameValues s.trail now) where
  was_inside : j < length s.trail.clauses
  was_inside = let high = (number_within s.trail.clauses (suc j) c live).1 in omega arith

  gone : clause_at now.clauses (suc j) ≡ None
  gone = ap (λ cs. get_or cs j None) clauses ∙ get_or-set_same s.trail.clauses j None None was_inside

  at_other : (n : ℕ) → n ≢ suc j → clause_at now.clauses n ≡ clause_at s.trail.clauses n
  at_other n ne = ap (λ cs. clause_at cs n) clauses ∙ clause_other s.trail.clauses j None n ne

  -- what is live was live
  was_live : (n : ℕ) (d : Lits) → clause_at now.clauses n ≡ Some d → clause_at s.trail.clauses n ≡ Some d
  was_live n d here = elim (cases_eq n (suc j)) [
    | inl e ↦ absurd (let none : clause_at now.clauses n ≡ None = ap (λ m. clause_at now.clauses m) e ∙ gone in cc)
    | inr ne ↦ sym (at_other n ne) ∙ here
  ]

  -- the clause is forgotten, and has the formula's variables
  away : IsForgotten log (set s.standings (derived_place log (get_or s.indices (suc j) 0)) Forgotten) (get_or s.indices (suc j) 0)
  away = record {
    stands = record {
      derived = stands.derived;
      within = let w = stands.within in let same = length-set s.standings (derived_place log (get_or s.indices (suc j) 0)) Forgotten in omega arith;
      stands = get_or-set_same s.standings (derived_place log (get_or s.indices (suc j) 0)) Forgotten Back stands.within;
    };
    within_variables =
        let own = solving.knows.known (suc j) c live in
        let within = (known.clauses (suc j) c live).1 in
        subst (WithinVariables log.originals.variables) (sym own.1) (subst (λ v. WithinVariables v c) solving.knows.over within);
  }

  live_or_away : (i : ℕ) → IsIndexOf log i
      → IsForgotten log (set s.standings (derived_place log (get_or s.indices (suc j) 0)) Forgotten) i ⊎ IsLive now s.indices i
  live_or_away i there = elim (cases_eq i (get_or s.indices (suc j) 0)) [
    | inl e ↦ inl (subst (IsForgotten log (set s.standings (derived_place log (get_or s.indices (suc j) 0)) Forgotten)) (sym e) away)
    | inr ne ↦ elim (solving.live i there) [
      | inl forgotten ↦ inl (forgotten_other log s.standings solving.each_stands (get_or s.indices (suc j) 0) Learned stands Forgotten i ne forgotten)
      | inr own ↦
          let other : own.0 ≢ suc j = λ e. ne (sym own.3 ∙ ap (λ m. get_or s.indices m 0) e) in
          inr (own.0, own.1, at_other own.0 other ∙ own.2, own.3)
    ]
  ]

  pub solving_forgot : IsSolving log (record {
    limit = s.limit;
    trail = now;
    indices = s.indices;
    standings = set s.standings (derived_place log (get_or s.indices (suc j) 0)) Forgotten;
  })
  solving_forgot = record {
    limited = solving.limited;
    spent = solving.spent;
    knows = record {
      over = values.variables ∙ solving.knows.over;
      size =
          let size = solving.knows.size in
          let long = ap (λ (cs : List (Option Lits)). length cs) clauses ∙ length-set s.trail.clauses j None in omega arith;
      known = λ n d here. solving.knows.known n d (was_live n d here);
    };
    many = let many = solving.many in let e = values.originals in omega arith;
    each_stands = length-set s.standings (derived_place log (get_or s.indices (suc j) 0)) Forgotten ∙ solving.each_stands;
    few = solving.few;
    live = live_or_away;
    room =
        let room = solving.room in
        let words = values.words in
        let held = ap (λ os. sum_by size os) clauses in
        let less = sum_by-set size s.trail.clauses j None None was_inside in
        let own = ap size live in
        let inside = place_inside log s.standings solving.each_stands (get_or s.indices (suc j) 0) Learned stands in
        let is =
        sym (stands_clause log s.standings solving.each_stands (get_or s.indices (suc j) 0) Learned stands) ∙ (solving.knows.known (suc j) c live).1 in
        let owes =
        owed_forgotten log.derived s.standings (derived_place log (get_or s.indices (suc j) 0)) inside stands.within c is stands.stands in
        omega arith;
    places =
        let places = solving.places in
        let held = ap (λ os. sum_by one os) clauses in
        let less = sum_by-set one s.trail.clauses j None None was_inside in
        let own = ap one live in
        let long = ap (λ (cs : List (Option Lits)). length cs) clauses ∙ length-set s.trail.clauses j None in
        let more = forgotten_more s.standings (derived_place log (get_or s.indices (suc j) 0)) stands.within stands.stands in omega arith;
    settled = settled_fewer s.trail now values was_live solving.settled;
    none_empty = solving.none_empty;
  }
