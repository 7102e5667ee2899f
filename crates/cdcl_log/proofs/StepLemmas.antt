-- What the search keeps after a conflict.
use Rattle.std.proofs.Common.{◌≡◌, ℕ, suc, ◌+◌, ◌*◌, ◌<◌, ◌≤◌, List, [], ◌∷◌, ◌++◌, length, set, get_or, sum_by, Some, refl, sym, ap, ◌∙◌, subst, arith, length-append}
use Rattle.std.proofs.lemmas.List.{get_or_read}
use Rattle.clause_defs.specs.Literals.{Literal}
use Rattle.clause_defs.specs.Clauses.{Lits, Has, SameSet}
use Rattle.clause_laws.proofs.ClauseLemmas.{same_refl}
use Rattle.log_defs.specs.Logs.{Derived, LogValue, Words, IsIndexOf, Extends, clause_of_log}
use Rattle.log_defs.specs.Deriving.{IsTaken}
use Rattle.conflict_analysis.proofs.WalkLemmas.{some_length}
use Rattle.pch_region.specs.Blocks.{size, one}
use Rattle.trail_defs.specs.Assignments.{IsConflict}
use Rattle.trail_defs.specs.Trails.{Assigned, clause_at, level_of, IsTrail, IsUpTo, HasSameClauses}
use Rattle.conflict_analysis.specs.Analyses.{IsReasoned, IsAsserting, IsLesson, IsSecondLevel}
use Rattle.settled_levels.specs.Levels.{IsTaught}
use Rattle.settled_levels.proofs.KeepLemmas.{settled_back}
use Rattle.search_defs.specs.declared.standing.Standing.TheVariants.{Learned, Forgotten, Back}
use Rattle.search_defs.specs.Solving.{Solving, Knows, StandsAs, derived_place, never_back_of, IsSolving, HasLearned}
use Rattle.search_defs.specs.Ends.{IsRefuted}
use Rattle.search_defs.proofs.OwedLemmas.{owed_back, forgotten_less, never_back_less}
use Rattle.search_defs.proofs.BackLemmas.{place_inside, stands_clause, solving_put_back}
use Rattle.search_defs.proofs.LearnLemmas.{new_clause, solving_learned, solving_moved}
use Rattle.search_defs.proofs.LessonLemmas.{conflict_present, taught_of}
use Rattle.search_defs.proofs.ReasonLemmas.{number_within, trail_reasoned}
use Rattle.conflict_lesson.proofs.SpentLemmas.{words_taken}
use Rattle.cdcl_log.specs.Steps.{IsPut}

-- the search went back to a level, and then the clause was put into the trail
learned_of : (b : ℕ) (c : Lits) (index : ℕ) (t back : Assigned) (indices : List ℕ) (now : Assigned) (indices_now : List ℕ)
    → IsUpTo b t back → back.levels ≡ t.levels → back.present ≡ b → HasSameClauses t back
    → (put : IsPut c index back indices now indices_now) → HasLearned b c t put.place now
learned_of b c index t back indices now indices_now up levels present same put = record {
  back = back;
  up = up;
  levels = levels;
  present = present;
  same = same;
  inside = put.inside;
  fresh = put.fresh;
  clauses = put.clauses;
  values = put.values;
}

module _ (log : LogValue) (c : Lits) (antecedents : List ℕ) (index : ℕ) (later : LogValue) (taken : IsTaken log (record { lits = c; antecedents = antecedents }) index later) where
  -- the log has one clause more
  pub taken_extends : Extends log later
  taken_extends = record {
    originals = ap (λ (l : LogValue). l.originals) taken.appended;
    budget = ap (λ (l : LogValue). l.budget) taken.appended;
    more = record { lits = c; antecedents = antecedents } ∷ [];
    derived = ap (λ (l : LogValue). l.derived) taken.appended;
  }

  -- and if that is the empty one, the formula is refuted
  pub taken_refutes : c ≡ [] → IsRefuted later index
  taken_refutes empty =
      let d : Derived = record { lits = c; antecedents = antecedents } in
      let long : length later.derived ≡ length log.derived + 1 =
      ap (λ (l : LogValue). length l.derived) taken.appended ∙ length-append log.derived (d ∷ []) in
      let first : length later.originals.clauses ≡ length log.originals.clauses = ap (λ (l : LogValue). length l.originals.clauses) taken.appended in
      let next = taken.next in
      let is : clause_of_log later index ≡ [] =
      ap (λ (l : LogValue). clause_of_log l index) taken.appended ∙ new_clause log d index next ∙ empty in
      record {
        derived = record {
          behind_originals = omega arith;
          within = omega arith;
          same = subst (λ (e : Lits). SameSet e []) (sym is) (same_refl []);
        };
        last = omega arith;
      }

  -- it spent four words at least
  pub four_more : (u : Literal) → Has c u → Words log.derived + 4 ≤ Words later.derived
  four_more u there = let some = some_length c u there in let more = words_taken log c antecedents index later taken in omega arith

  module _ (s : Solving) (solving : IsSolving log s) (spent : Words later.derived ≤ s.limit) where
    -- there is room for the clause
    pub words_left : sum_by size s.trail.clauses + length c ≤ s.trail.words
    words_left = let room = solving.room in let more = words_taken log c antecedents index later taken in omega arith

    pub blocks_left : (u : Literal) → Has c u → sum_by one s.trail.clauses < length s.trail.clauses
    blocks_left u there = let some = some_length c u there in let places = solving.places in let more = words_taken log c antecedents index later taken in omega arith

    -- and for how it stands
    pub standings_left : (u : Literal) → Has c u → (room : ℕ) → s.limit ≤ 4 * room + 3 → length s.standings < room
    standings_left u there room few =
        let more = four_more u there in
        let each = solving.each_stands in
        let all = solving.few in omega arith

    -- once the search went back and put it there, it goes on
    pub goes_on : IsTrail s.trail → (u : Literal) (b : ℕ) → IsTaught s.trail c u b
        → (back : Assigned) → IsUpTo b s.trail back → back.levels ≡ s.trail.levels → back.present ≡ b → HasSameClauses s.trail back
        → (now : Assigned) (indices : List ℕ) → IsPut c index back s.indices now indices
        → IsSolving later (record { limit = s.limit; trail = now; indices = indices; standings = s.standings ++ Learned ∷ [] })
    goes_on known u b taught back up levels present same now indices put =
        let d : Derived = record { lits = c; antecedents = antecedents } in
        let learned = learned_of b c index s.trail back s.indices now indices up levels present same put in
        let words : Words (log.derived ++ d ∷ []) ≤ s.limit = subst (λ (l : LogValue). Words l.derived ≤ s.limit) taken.appended spent in
        subst (λ (is : List ℕ). IsSolving later (record { limit = s.limit; trail = now; indices = is; standings = s.standings ++ Learned ∷ [] })) (sym put.listed)
        (subst
        (λ (l : LogValue). IsSolving l (record { limit = s.limit; trail = now; indices = set s.indices (suc put.place) index; standings = s.standings ++ Learned ∷ [] }))
        (sym taken.appended)
        (solving_learned log s solving known d u b taught index taken.next words put.place now learned))

-- a clause that the search forgot, and a conflict gave again
module _ (log : LogValue) (s : Solving) (solving : IsSolving log s) (index : ℕ) (stands : StandsAs log s.standings index Forgotten) where
  -- there is room for it
  pub words_owed : sum_by size s.trail.clauses + length (clause_of_log log index) ≤ s.trail.words
  words_owed =
      let room = solving.room in
      let spent = solving.spent in
      let inside = place_inside log s.standings solving.each_stands index Forgotten stands in
      let own = sym (stands_clause log s.standings solving.each_stands index Forgotten stands) in
      let owes = owed_back log.derived s.standings (derived_place log index) inside stands.within (clause_of_log log index) own stands.stands in
      omega arith

  pub blocks_owed : sum_by one s.trail.clauses < length s.trail.clauses
  blocks_owed =
      let places = solving.places in
      let spent = solving.spent in
      let away = forgotten_less s.standings (derived_place log index) stands.within stands.stands in omega arith

  -- once it is there, one clause less was never put back
  pub fewer_never_back : never_back_of (set s.standings (derived_place log index) Back) < never_back_of s.standings
  fewer_never_back = let less = never_back_less s.standings (derived_place log index) stands.within stands.stands in omega arith

  -- and the search goes on
  pub comes_back : IsTrail s.trail → (u : Literal) (b : ℕ) → IsTaught s.trail (clause_of_log log index) u b
      → (back : Assigned) → IsUpTo b s.trail back → back.levels ≡ s.trail.levels → back.present ≡ b → HasSameClauses s.trail back
      → (now : Assigned) (indices : List ℕ) → IsPut (clause_of_log log index) index back s.indices now indices
      → IsSolving log (record { limit = s.limit; trail = now; indices = indices; standings = set s.standings (derived_place log index) Back })
  comes_back known u b taught back up levels present same now indices put =
      let learned = learned_of b (clause_of_log log index) index s.trail back s.indices now indices up levels present same put in
      subst
      (λ (is : List ℕ). IsSolving log (record { limit = s.limit; trail = now; indices = is; standings = set s.standings (derived_place log index) Back }))
      (sym put.listed)
      (solving_put_back log s solving known (clause_of_log log index) u b taught index stands refl put.place now learned)

-- the slices that a trail lends are one whose reasons are clauses of the log
pub reasoned_with : (log : LogValue) (t : Assigned) (is : List ℕ) → IsTrail t → Knows log t is → (present : ℕ) (lits : Lits) (levels reasons indices : List ℕ)
    → present ≡ t.present → lits ≡ t.lits → levels ≡ t.levels → reasons ≡ t.reasons → indices ≡ is
    → t.variables < length levels → t.variables < length reasons → IsReasoned log present lits levels reasons indices
reasoned_with log t is known knows present lits levels reasons indices p l v r i level_size reason_size =
    let reasoned =
    trail_reasoned log t is known knows (subst (λ (ns : List ℕ). t.variables < length ns) v level_size)
    (subst (λ (ns : List ℕ). t.variables < length ns) r reason_size) in
    subst (λ n. IsReasoned log n lits levels reasons indices) (sym p)
    (subst (λ (ls : Lits). IsReasoned log t.present ls levels reasons indices) (sym l)
    (subst (λ (ns : List ℕ). IsReasoned log t.present t.lits ns reasons indices) (sym v)
    (subst (λ (ns : List ℕ). IsReasoned log t.present t.lits t.levels ns indices) (sym r)
    (subst (λ (ns : List ℕ). IsReasoned log t.present t.lits t.levels t.reasons ns) (sym i) reasoned))))

-- the index at the number of a live clause, however it was read
index_read : (log : LogValue) (s : Solving) → IsSolving log s → (k index : ℕ) (c : Lits) → clause_at s.trail.clauses k ≡ Some c
    → index ≡ get_or s.indices k index → index ≡ get_or s.indices k 0
index_read log s solving k index c live read =
    let high = (number_within s.trail.clauses k c live).1 in
    let size = solving.knows.size in get_or_read s.indices k index (omega arith) read 0

-- the clause in conflict is one of the log
pub conflict_known : (log : LogValue) (s : Solving) → IsSolving log s → (k index : ℕ) (c : Lits) → clause_at s.trail.clauses k ≡ Some c → IsConflict s.trail.lits c
    → index ≡ get_or s.indices k index → IsIndexOf log index × IsConflict s.trail.lits (clause_of_log log index)
conflict_known log s solving k index c live all_false read =
    let own = solving.knows.known k c live in
    let is = index_read log s solving k index c live read in (
      subst (IsIndexOf log) (sym is) own.0,
      subst (IsConflict s.trail.lits) (sym (ap (λ i. clause_of_log log i) is ∙ own.1)) all_false,
    )

-- it has a literal of the present level
pub present_known : (log : LogValue) (s : Solving) → IsSolving log s → IsTrail s.trail → 1 ≤ s.trail.present → (k index : ℕ) (c : Lits)
    → clause_at s.trail.clauses k ≡ Some c → IsConflict s.trail.lits c → index ≡ get_or s.indices k index
    → (x : Literal) × Has (clause_of_log log index) x × (level_of s.trail x ≡ s.trail.present)
present_known log s solving known high k index c live all_false read =
    let is = index_read log s solving k index c live read in
    let own = solving.knows.known k c live in
    let some = conflict_present s.trail known solving.settled high k c live all_false in
    (some.0, subst (λ (d : Lits). Has d some.0) (sym (ap (λ i. clause_of_log log i) is ∙ own.1)) some.1, some.2)

-- the search goes back
pub solving_back : (log : LogValue) (s : Solving) → IsSolving log s → (b : ℕ) (t : Assigned) → b ≤ s.trail.present → IsUpTo b s.trail t → t.levels ≡ s.trail.levels
    → t.present ≡ b → HasSameClauses s.trail t → IsSolving log (record { limit = s.limit; trail = t; indices = s.indices; standings = s.standings })
solving_back log s solving b t low up levels present same =
    solving_moved log s t solving same (settled_back s.trail t b up levels present same.clauses low solving.settled)

-- what a conflict taught, by the slices that the trail lent
pub taught_with : (log : LogValue) (t : Assigned) (trail : Lits) (levels : List ℕ) (present : ℕ) (antecedents : List ℕ) (c : Lits) (again : List ℕ) (d : Lits) (b : ℕ)
    → trail ≡ t.lits → levels ≡ t.levels → present ≡ t.present → again ≡ t.levels → d ≡ c → IsLesson log trail levels antecedents c
    → (u : Literal) × IsAsserting levels present c u → ((u : Literal) → IsAsserting again present d u → IsSecondLevel again present d u b)
    → (u : Literal) × IsTaught t c u b
taught_with log t trail levels present antecedents c again d b lits_are levels_are present_is again_are same lesson asserting second =
    let u = asserting.0 in
    let own : IsAsserting t.levels t.present c u =
    subst (λ n. IsAsserting t.levels n c u) present_is (subst (λ (ns : List ℕ). IsAsserting ns present c u) levels_are asserting.1) in
    let there : IsAsserting again present d u =
    subst (λ (ns : List ℕ). IsAsserting ns present d u) (levels_are ∙ sym again_are)
    (subst (λ (e : Lits). IsAsserting levels present e u) (sym same) asserting.1) in
    let far = second u there in
    let near : IsSecondLevel t.levels t.present c u b =
    subst (λ n. IsSecondLevel t.levels n c u b) present_is
    (subst (λ (ns : List ℕ). IsSecondLevel ns present c u b) again_are
    (subst (λ (e : Lits). IsSecondLevel again present e u b) same far)) in
    let own_lesson =
    subst (λ (ls : Lits). IsLesson log ls t.levels antecedents c) lits_are
    (subst (λ (ns : List ℕ). IsLesson log trail ns antecedents c) levels_are lesson) in
    (u, taught_of log t antecedents c u b own_lesson own near)
