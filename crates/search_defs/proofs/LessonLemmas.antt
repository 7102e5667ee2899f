-- What a conflict teaches is new to the log, or forgotten.
use Rattle.std.proofs.Common.{◌≡◌, ◌≢◌, ℕ, ◌+◌, ◌-◌, ◌<◌, ◌≤◌, List, length, get_or, Some, inl, inr, sym, subst, arith}
use Rattle.clause_defs.specs.Literals.{Literal}
use Rattle.clause_defs.specs.Clauses.{Lits, Has, SameSet}
use Rattle.log_defs.specs.Logs.{LogValue, IsIndexOf, HasDerived, clause_of_log}
use Rattle.trail_defs.specs.Assignments.{IsConflict}
use Rattle.trail_defs.specs.Trails.{Assigned, clause_at, level_of, IsTrail}
use Rattle.conflict_analysis.specs.Analyses.{IsAsserting, IsLesson, IsSecondLevel}
use Rattle.settled_levels.specs.Levels.{IsSettledBelow, IsTaught}
use Rattle.settled_levels.proofs.FrontLemmas.{front_at}
use Rattle.settled_levels.proofs.LevelLemmas.{taught_is_new, conflict_is_present}
use Rattle.search_defs.specs.declared.standing.Standing.TheVariants.{Forgotten}
use Rattle.search_defs.specs.Solving.{Solving, StandsAs, IsSolving}

-- the clause that a conflict teaches, with the level that the search goes back to
pub taught_of : (log : LogValue) (t : Assigned) (antecedents : List ℕ) (c : Lits) (u : Literal) (b : ℕ) → IsLesson log t.lits t.levels antecedents c
    → IsAsserting t.levels t.present c u → IsSecondLevel t.levels t.present c u b → IsTaught t c u b
taught_of log t antecedents c u b lesson asserting second = record {
  all_false = lesson.all_false;
  there = asserting.there;
  own = asserting.own;
  lower = second.lower;
  most = second.most;
  reached = second.reached;
}

-- in any order of its literals
taught_same : (t : Assigned) (c d : Lits) (u : Literal) (b : ℕ) → SameSet c d → IsTaught t c u b → IsTaught t d u b
taught_same t c d u b same taught = record {
  all_false = λ x h. taught.all_false x ((same x).1 h);
  there = (same u).0 taught.there;
  own = taught.own;
  lower = taught.lower;
  most = λ x h other. taught.most x ((same x).1 h) other;
  reached = elim taught.reached [
    | inl none ↦ inl none
    | inr some ↦ inr (some.0, (same some.0).0 some.1, some.2, some.3)
  ];
}

-- it isn't derived yet or is forgotten, since each other clause of the log is live
pub lesson_is_new_or_forgotten : (log : LogValue) (s : Solving) (c : Lits) (u : Literal) (b : ℕ) → IsSolving log s → IsTrail s.trail
    → IsTaught s.trail c u b → (index : ℕ) → HasDerived log c index → StandsAs log s.standings index Forgotten
lesson_is_new_or_forgotten log s c u b solving known taught index derived =
    let first = derived.behind_originals in
    let there : IsIndexOf log index = record { low = omega arith; high = derived.within } in
    elim (solving.live index there) [
      | inl forgotten ↦ forgotten.stands
      | inr live ↦
          let own = solving.knows.known live.0 live.1 live.2 in
          let is : clause_of_log log index ≡ live.1 = subst (λ i. clause_of_log log i ≡ live.1) live.3 own.1 in
          let same : SameSet live.1 c = subst (λ (d : Lits). SameSet d c) is derived.same in
          let front = front_at s.trail known b in
          absurd
          (taught_is_new s.trail known live.1 u b (taught_same s.trail c live.1 u b (λ l. ((same l).1, (same l).0)) taught)
          solving.settled front.0 front.1 live.0 live.2)
    ]

-- a live clause in conflict has a literal of the present level
pub conflict_present : (t : Assigned) → IsTrail t → IsSettledBelow t → 1 ≤ t.present → (k : ℕ) (c : Lits) → clause_at t.clauses k ≡ Some c
    → IsConflict t.lits c → (x : Literal) × Has c x × (level_of t x ≡ t.present)
conflict_present t known settled high k c live all_false =
    let front = front_at t known (t.present - 1) in
    conflict_is_present t known c front.0 (t.present - 1) all_false (omega arith) front.1
    (settled k c live (t.present - 1) front.0 (omega arith) front.1)
