-- A clause that the search forgot comes back.
use Rattle.std.proofs.Common.{◌≡◌, ◌≢◌, ◌⊎◌, ℕ, suc, ◌+◌, ◌-◌, ◌*◌, ◌<◌, ◌≤◌, List, length, set, get_or, inl, inr, refl, sym, ap, ◌∙◌, subst, arith, length-set, get_or-set_same, get_or-set_other}
use Rattle.std.proofs.lemmas.Bool.{cases_eq}
use Rattle.clause_defs.specs.Literals.{Literal}
use Rattle.clause_defs.specs.Clauses.{Lits}
use Rattle.log_defs.specs.Logs.{Derived, LogValue, IsIndexOf, derived_at, clause_of_log}
use Rattle.log_laws.proofs.LogLemmas.{clause_with-derived}
use Rattle.trail_defs.specs.Trails.{Assigned, IsTrail}
use Rattle.settled_levels.specs.Levels.{IsTaught}
use Rattle.search_defs.specs.declared.standing.Standing.{Standing}
use Rattle.search_defs.specs.declared.standing.Standing.TheVariants.{Learned, Forgotten, Back}
use Rattle.search_defs.specs.Solving.{Solving, IsLive, StandsAs, derived_place, IsForgotten, IsSolving, HasLearned}
use Rattle.search_defs.proofs.OwedLemmas.{owed_back, forgotten_less}
use Rattle.search_defs.proofs.PutLemmas.{places_stay, words_more, blocks_more, live_new, live_other, knows_put, settled_put}

-- a derived clause that stands somehow
module _ (log : LogValue) (ss : List Standing) (all : length ss ≡ length log.derived) (index : ℕ) (standing : Standing) (stands : StandsAs log ss index standing) where
  pub place_is : index ≡ length log.originals.clauses + derived_place log index + 1
  place_is = let a = stands.derived in omega arith

  pub place_inside : derived_place log index < length log.derived
  place_inside = let a = stands.within in omega arith

  pub stands_there : IsIndexOf log index
  stands_there = let a = stands.derived in let b = place_inside in let e = place_is in record { low = omega arith; high = omega arith }

  -- is the one at its place
  pub stands_clause : clause_of_log log index ≡ (derived_at log.derived (derived_place log index)).lits
  stands_clause = clause_with-derived log.originals.clauses log.derived index (derived_place log index) place_is place_inside

  -- another one that is forgotten stays so
  pub forgotten_other : (other : Standing) (i : ℕ) → i ≢ index → IsForgotten log ss i → IsForgotten log (set ss (derived_place log index) other) i
  forgotten_other other i ne forgotten =
      let apart : derived_place log i ≢ derived_place log index =
      λ e. ne (let a = stands.derived in let b = forgotten.stands.derived in omega arith) in
      record {
        stands = record {
          derived = forgotten.stands.derived;
          within = let w = forgotten.stands.within in let same = length-set ss (derived_place log index) other in omega arith;
          stands = get_or-set_other ss (derived_place log index) (derived_place log i) other Back apart ∙ forgotten.stands.stands;
        };
        within_variables = forgotten.within_variables;
      }

-- the search went back, and its trail takes the forgotten clause as number j + 1
module _ (log : LogValue) (s : Solving) (solving : IsSolving log s) (known : IsTrail s.trail) (c : Lits) (u : Literal) (b : ℕ)
    (taught : IsTaught s.trail c u b) (index : ℕ) (stands : StandsAs log s.standings index Forgotten) (is : clause_of_log log index ≡ c)
    (j : ℕ) (now : Assigned) (learned : HasLearned b c s.trail j now) where
  live_again : (i : ℕ) → IsIndexOf log i
      → IsForgotten log (set s.standings (derived_place log index) Back) i ⊎ IsLive now (set s.indices (suc j) index) i
  live_again i there = elim (cases_eq i index) [
    | inl e ↦ inr (subst (IsLive now (set s.indices (suc j) index)) (sym e) (live_new s c b j now learned index solving.knows.size))
    | inr ne ↦ elim (solving.live i there) [
      | inl forgotten ↦ inl (forgotten_other log s.standings solving.each_stands index Forgotten stands Back i ne forgotten)
      | inr live ↦ inr (live_other s c b j now learned index solving.knows.size i live)
    ]
  ]

  pub solving_put_back : IsSolving log (record {
    limit = s.limit;
    trail = now;
    indices = set s.indices (suc j) index;
    standings = set s.standings (derived_place log index) Back;
  })
  solving_put_back = record {
    limited = solving.limited;
    spent = solving.spent;
    knows =
        knows_put s c b j now learned index solving.knows.size log log refl (λ i there. (there, refl))
        (stands_there log s.standings solving.each_stands index Forgotten stands) is solving.knows;
    many = let many = solving.many in let e = learned.values.originals ∙ learned.same.originals in omega arith;
    each_stands = length-set s.standings (derived_place log index) Back ∙ solving.each_stands;
    few = solving.few;
    live = live_again;
    room =
        let room = solving.room in
        let words = learned.values.words ∙ learned.same.words in
        let held = words_more s c b j now learned in
        let inside = place_inside log s.standings solving.each_stands index Forgotten stands in
        let own = sym (stands_clause log s.standings solving.each_stands index Forgotten stands) ∙ is in
        let owes = owed_back log.derived s.standings (derived_place log index) inside stands.within c own stands.stands in omega arith;
    places =
        let places = solving.places in
        let held = blocks_more s c b j now learned in
        let many = places_stay s c b j now learned in
        let away = forgotten_less s.standings (derived_place log index) stands.within stands.stands in omega arith;
    settled = settled_put s c b j now learned known u taught solving.settled;
    none_empty = solving.none_empty;
  }
