-- What one look at a watch leaves, with the literal that it may have forced.
use Rattle.std.specs.Prelude.{◌≡◌, ℕ, ◌+◌, ◌<◌, ◌≤◌, List, [], length, take, Option}
use Rattle.clause_defs.specs.Literals.{Literal}
use Rattle.clause_defs.specs.Clauses.{Lits}
use Rattle.link_lists.specs.Linked.{Linked, list_at}
use Rattle.sat_trail.specs.Watching.{AreOver, HasSizes, AreWatches, IsWatched, AreListed, AreVisited, AreAnswered}
use Rattle.sat_trail.specs.Stages.{stage_at, AreMarked, AreStages, Grows}
use Rattle.sat_trail.specs.Visits.{IsInConflict}
use Rattle.sat_trail.specs.declared.levels.Stage.{Stage}
use Rattle.sat_trail.specs.declared.spread.Look.{Look}
use Rattle.sat_trail.specs.declared.spread.Look.TheVariants.{Done, On, Conflict}

-- no level begins behind the n literals
abbrev pub AreWithin : ℕ → List Stage → Type 0
AreWithin n stages = (j : ℕ) → j < length stages → (stage_at stages j).len ≤ n

-- what the marks and the stages were, they are, whatever the stages of the present level are
pub record Keeps (clauses : List (Option Lits)) (variables level : ℕ) (loose loose_after : List ℕ)
    (watch t : Lits) (levels reasons : List ℕ) (watch_after t_after : Lits) (levels_after reasons_after : List ℕ) : Type 0 where
  pub grows : Grows t t_after levels levels_after reasons reasons_after level
  pub watched : (done : ℕ) → done ≤ length t → IsWatched clauses loose watch t (take done t)
      → IsWatched clauses loose_after watch_after t_after (take done t_after)
  pub stages : (done : ℕ) (stages : List Stage) → length stages ≡ level → AreMarked clauses variables t levels reasons stages
      → AreStages clauses loose watch t done stages → AreStages clauses loose_after watch_after t_after done stages
  pub marked : (stages : List Stage) → length stages ≡ level → AreWithin (length t) stages
      → AreMarked clauses variables t levels reasons stages → AreMarked clauses variables t_after levels_after reasons_after stages

-- nothing was left to visit; or one watch was, and those of x that came back are answered; or a clause is in conflict
abbrev pub IsOutcome : List (Option Lits) → Literal → Lits → List (List ℕ) → Lits → Lits → List (List ℕ) → Lits → Look → Type 0
IsOutcome clauses x watch lists t watch_after lists_after t_after Done =
    (list_at lists 0 ≡ []) × (list_at lists_after 0 ≡ []) × (AreAnswered watch lists t x → AreAnswered watch_after lists_after t_after x)
IsOutcome clauses x watch lists t watch_after lists_after t_after On =
    (length (list_at lists_after 0) < length (list_at lists 0)) × (AreAnswered watch lists t x → AreAnswered watch_after lists_after t_after x)
IsOutcome clauses x watch lists t watch_after lists_after t_after (Conflict k) =
    (length (list_at lists_after 0) < length (list_at lists 0)) × IsInConflict clauses t_after k

-- the watches of x are being visited, and the numbers fit
pub record IsVisiting (clauses : List (Option Lits)) (variables : ℕ) (watch : Lits) (links : Linked) (x : Literal) : Type 0 where
  pub over : AreOver variables clauses
  pub sizes : HasSizes clauses variables links
  pub watches : AreWatches clauses (list_at links.lists 1) watch
  pub visited : AreVisited clauses (list_at links.lists 1) watch links.lists x

-- no watches are being visited, and the numbers fit
pub record IsResting (clauses : List (Option Lits)) (variables : ℕ) (watch : Lits) (links : Linked) : Type 0 where
  pub over : AreOver variables clauses
  pub sizes : HasSizes clauses variables links
  pub watches : AreWatches clauses (list_at links.lists 1) watch
  pub listed : AreListed clauses (list_at links.lists 1) watch links.lists

-- levels and reasons are listed for each variable
pub record HasMarks (variables : ℕ) (levels reasons : List ℕ) : Type 0 where
  pub level_size : length levels ≡ variables + 1
  pub reason_size : length reasons ≡ variables + 1

-- no watches are being visited, and those of the first `done` literals are watched
pub record IsPassing (clauses : List (Option Lits)) (variables : ℕ) (watch : Lits) (links : Linked) (t : Lits) (levels reasons : List ℕ) (done : ℕ) : Type 0 where
  pub resting : IsResting clauses variables watch links
  pub marks : HasMarks variables levels reasons
  pub watched : IsWatched clauses (list_at links.lists 1) watch t (take done t)
  pub passed : done ≤ length t
