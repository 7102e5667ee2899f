-- The search goes on after each of its steps.
use Rattle.std.proofs.Common.{◌≡◌, ◌⊎◌, ℕ, suc, ◌+◌, ◌-◌, ◌*◌, ◌<◌, ◌≤◌, List, [], ◌∷◌, ◌++◌, length, set, get_or, sum_by, Option, Some, inl, inr, refl, sym, ap, ◌∙◌, subst, arith, length-append}
use Rattle.std.proofs.lemmas.Bool.{cases_lt}
use Rattle.std.proofs.lemmas.List.{get_or_append_left}
use Rattle.std.proofs.lemmas.List.Sums.{sum_by_push}
use Rattle.clause_defs.specs.Literals.{Literal}
use Rattle.clause_defs.specs.Clauses.{Lits, Has, SameSet, WithinVariables}
use Rattle.log_defs.specs.Logs.{Derived, LogValue, words_of, Words, IsIndexOf, HasDerived, clause_of_log}
use Rattle.log_defs.specs.Deriving.{IsNew, with_derived}
use Rattle.log_laws.proofs.LogLemmas.{clause_with-before, clause_with-derived, derived_at-last}
use Rattle.conflict_analysis.proofs.WalkLemmas.{some_length}
use Rattle.pch_region.specs.Blocks.{size, one}
use Rattle.trail_defs.specs.Trails.{Assigned, clause_at, IsTrail, HasSameClauses}
use Rattle.settled_levels.specs.Levels.{IsSettledBelow, IsTaught}
use Rattle.search_defs.specs.declared.standing.Standing.{Standing}
use Rattle.search_defs.specs.declared.standing.Standing.TheVariants.{Learned, Forgotten, Back}
use Rattle.search_defs.specs.Solving.{Solving, IsLive, StandsAs, derived_place, IsForgotten, IsSolving, HasLearned}
use Rattle.search_defs.proofs.OwedLemmas.{owed_learned, forgotten_learned}
use Rattle.search_defs.proofs.PutLemmas.{places_stay, words_more, blocks_more, live_new, live_other, knows_put, settled_put}

-- a step that leaves clauses and their indices alone
pub solving_moved : (log : LogValue) (s : Solving) (t : Assigned) → IsSolving log s → HasSameClauses s.trail t → IsSettledBelow t
    → IsSolving log (record { limit = s.limit; trail = t; indices = s.indices; standings = s.standings })
solving_moved log s t solving same settled =
    let clauses = same.clauses in
    record {
      limited = solving.limited;
      spent = solving.spent;
      knows = record {
        over = same.variables ∙ solving.knows.over;
        size = subst (λ (cs : List (Option Lits)). length cs < length s.indices) (sym clauses) solving.knows.size;
        known = λ k c live. solving.knows.known k c (subst (λ cs. clause_at cs k ≡ Some c) clauses live);
      };
      many = let many = solving.many in let e = same.originals in omega arith;
      each_stands = solving.each_stands;
      few = solving.few;
      live = λ index there. elim (solving.live index there) [
        | inl forgotten ↦ inl forgotten
        | inr live ↦ inr (live.0, live.1, subst (λ cs. clause_at cs live.0 ≡ Some live.1) (sym clauses) live.2, live.3)
      ];
      room = let room = solving.room in let words = same.words in let held = ap (λ os. sum_by size os) clauses in omega arith;
      places =
          let places = solving.places in
          let held = ap (λ os. sum_by one os) clauses in
          let many = ap (λ (cs : List (Option Lits)). length cs) clauses in omega arith;
      settled = settled;
      none_empty = solving.none_empty;
    }

-- a clause is added to the log
module _ (log : LogValue) (d : Derived) where
  -- the clauses that were there keep their indices
  pub old_clause : (i : ℕ) → IsIndexOf log i → clause_of_log (with_derived log d) i ≡ clause_of_log log i
  old_clause i there = clause_with-before log.originals.clauses log.derived (d ∷ []) i there.low there.high

  pub old_index : (i : ℕ) → IsIndexOf log i → IsIndexOf (with_derived log d) i
  old_index i there = record {
    low = there.low;
    high = let high = there.high in omega (arith, length-append log.derived (d ∷ []));
  }

  -- those that are forgotten stay so
  old_forgotten : (ss : List Standing) (i : ℕ) → IsIndexOf log i → IsForgotten log ss i → IsForgotten (with_derived log d) (ss ++ Learned ∷ []) i
  old_forgotten ss i there forgotten = record {
    stands = record {
      derived = forgotten.stands.derived;
      within = let w = forgotten.stands.within in omega (arith, length-append ss (Learned ∷ []));
      stands = get_or_append_left ss (Learned ∷ []) Back (derived_place log i) forgotten.stands.within ∙ forgotten.stands.stands;
    };
    within_variables = subst (WithinVariables log.originals.variables) (sym (old_clause i there)) forgotten.within_variables;
  }

  module _ (index : ℕ) (next : index ≡ length log.originals.clauses + length log.derived + 1) where
    -- the new one has the next index
    pub new_clause : clause_of_log (with_derived log d) index ≡ d.lits
    new_clause =
        clause_with-derived log.originals.clauses (log.derived ++ d ∷ []) index (length log.derived) next (omega (arith, length-append log.derived (d ∷ [])))
        ∙ ap (λ (e : Derived). e.lits) (derived_at-last log.derived d (length log.derived) refl)

    pub new_index : IsIndexOf (with_derived log d) index
    new_index = record { low = omega arith; high = omega (arith, length-append log.derived (d ∷ [])) }

    -- an index is an old one, or the new one
    pub which_index : (i : ℕ) → IsIndexOf (with_derived log d) i → IsIndexOf log i ⊎ (i ≡ index)
    which_index i there = elim (cases_lt (length log.originals.clauses + length log.derived) i) [
      | inl past ↦ inr (let high = there.high in omega (arith, length-append log.derived (d ∷ [])))
      | inr le ↦ inl (record { low = there.low; high = le })
    ]

    -- it has the empty clause derived, if this is new and has a literal
    pub none_empty_after : IsNew log [] → (u : Literal) → Has d.lits u → IsNew (with_derived log d) []
    none_empty_after none u there i derived =
        elim (which_index i (record { low = let a = derived.behind_originals in omega arith; high = derived.within })) [
          | inl old ↦
              none i (record {
                behind_originals = derived.behind_originals;
                within = old.high;
                same = subst (λ (e : Lits). SameSet e []) (old_clause i old) derived.same;
              })
          | inr e ↦
              let is : SameSet d.lits [] =
              subst (λ (e : Lits). SameSet e []) (ap (λ n. clause_of_log (with_derived log d) n) e ∙ new_clause) derived.same in
              (is u).0 there
        ]

-- the search went back, and its trail learns the clause as number j + 1
module _ (log : LogValue) (s : Solving) (solving : IsSolving log s) (known : IsTrail s.trail) (d : Derived) (u : Literal) (b : ℕ)
    (taught : IsTaught s.trail d.lits u b) (index : ℕ) (next : index ≡ length log.originals.clauses + length log.derived + 1)
    (spent : Words (log.derived ++ d ∷ []) ≤ s.limit)
    (j : ℕ) (now : Assigned) (learned : HasLearned b d.lits s.trail j now) where
  -- each clause of the log is live or forgotten
  live_after : (i : ℕ) → IsIndexOf (with_derived log d) i
      → IsForgotten (with_derived log d) (s.standings ++ Learned ∷ []) i ⊎ IsLive now (set s.indices (suc j) index) i
  live_after i there = elim (which_index log d index next i there) [
    | inl old ↦ elim (solving.live i old) [
      | inl forgotten ↦ inl (old_forgotten log d s.standings i old forgotten)
      | inr live ↦ inr (live_other s d.lits b j now learned index solving.knows.size i live)
    ]
    | inr e ↦ inr (subst (IsLive now (set s.indices (suc j) index)) (sym e) (live_new s d.lits b j now learned index solving.knows.size))
  ]

  pub solving_learned : IsSolving (with_derived log d)
      (record { limit = s.limit; trail = now; indices = set s.indices (suc j) index; standings = s.standings ++ Learned ∷ [] })
  solving_learned = record {
    limited = solving.limited;
    spent = spent;
    knows =
        knows_put s d.lits b j now learned index solving.knows.size log (with_derived log d) refl (λ i there. (old_index log d i there, old_clause log d i there))
        (new_index log d index next) (new_clause log d index next) solving.knows;
    many = let many = solving.many in let e = learned.values.originals ∙ learned.same.originals in omega arith;
    each_stands = let each = solving.each_stands in omega (arith, length-append s.standings (Learned ∷ []), length-append log.derived (d ∷ []));
    few =
        let few = solving.few in
        let some = some_length d.lits u taught.there in
        let all = sum_by_push words_of log.derived d in omega (arith, length-append log.derived (d ∷ []));
    live = live_after;
    room =
        let room = solving.room in
        let words = learned.values.words ∙ learned.same.words in
        let held = words_more s d.lits b j now learned in
        let owes = owed_learned log.derived s.standings d solving.each_stands in
        let all = sum_by_push words_of log.derived d in omega arith;
    places =
        let places = solving.places in
        let held = blocks_more s d.lits b j now learned in
        let many = places_stay s d.lits b j now learned in
        let some = some_length d.lits u taught.there in
        let away = forgotten_learned s.standings in
        let all = sum_by_push words_of log.derived d in omega arith;
    settled = settled_put s d.lits b j now learned known u taught solving.settled;
    none_empty = none_empty_after log d index next solving.none_empty u taught.there;
  }
