-- Levels: how far the trail was when each was opened.
use Rattle.std.specs.Prelude.{◌≡◌, ◌≢◌, ℕ, ◌+◌, ◌<◌, ◌≤◌, ◌↔◌, ◌++◌, List, length, get_or, take, Option}
use Rattle.clause_defs.specs.Literals.{Literal}
use Rattle.clause_defs.specs.Clauses.{Lits, Has}
use Rattle.trail_defs.specs.Assignments.{IsAt}
use Rattle.trail_defs.specs.Trails.{IsReason}
use Rattle.sat_trail.specs.Watching.{IsWatched}
use Rattle.sat_trail.specs.declared.levels.Stage.{Stage}

-- what no stage is read past
abbrev pub first_stage : Stage
first_stage = record { len = 0; done = 0 }

abbrev pub stage_at : List Stage → ℕ → Stage
stage_at stages j = get_or stages j first_stage

-- the trail was watched when it had as many literals, of which so many had been passed on
abbrev pub IsWatchedAt : List (Option Lits) → List ℕ → Lits → Lits → Stage → Type 0
IsWatchedAt clauses loose watch t s = IsWatched clauses loose watch (take s.len t) (take s.done t)

-- a stage of a trail that has n literals now: a literal was assigned right then
pub record IsStage (n : ℕ) (s : Stage) : Type 0 where
  pub within : s.len < n
  pub passed : s.done ≤ s.len

-- whatever front of the trail was watched is watched by the new watches
abbrev pub KeepsStages : List (Option Lits) → List ℕ → Lits → Lits → Lits → Type 0
KeepsStages clauses loose watch later t =
    (n done : ℕ) → IsWatched clauses loose watch (take n t) (take done t) → IsWatched clauses loose later (take n t) (take done t)

-- every stage is watched, and so is the present
pub record AreStages (clauses : List (Option Lits)) (loose : List ℕ) (watch t : Lits) (done : ℕ) (stages : List Stage) : Type 0 where
  pub passed : done ≤ length t
  pub now : IsWatched clauses loose watch t (take done t)
  pub each : (j : ℕ) → j < length stages → IsStage (length t) (stage_at stages j) × IsWatchedAt clauses loose watch t (stage_at stages j)
  pub rising : (i j : ℕ) → i < j → j < length stages → (stage_at stages i).len < (stage_at stages j).len

-- a literal's level is the number of levels that were opened before it came
abbrev pub AreLevels : Lits → List ℕ → List Stage → Type 0
AreLevels t levels stages =
    (i : ℕ) (l : Literal) → IsAt t i l → (j : ℕ) → j < length stages → ((stage_at stages j).len ≤ i) ↔ (j < get_or levels l.variable 0)

-- Levels and reasons of the literals of a trail, listed by variable. A literal with a reason was implied by it,
-- and one without came when a level was opened.
pub record AreMarked (clauses : List (Option Lits)) (variables : ℕ) (t : Lits) (levels reasons : List ℕ) (stages : List Stage) : Type 0 where
  pub level_size : length levels ≡ variables + 1
  pub reason_size : length reasons ≡ variables + 1
  pub levels_are : AreLevels t levels stages
  pub top : (i : ℕ) (l : Literal) → IsAt t i l → get_or levels l.variable 0 ≤ length stages
  pub implied : (i : ℕ) (l : Literal) → IsAt t i l → get_or reasons l.variable 0 ≢ 0 → IsReason clauses (take i t) (get_or reasons l.variable 0) l
  pub decided : (i : ℕ) (l : Literal) → IsAt t i l → get_or reasons l.variable 0 ≡ 0 → (j : ℕ) × (j < length stages) × ((stage_at stages j).len ≡ i)

-- The trail grew by literals of the present level, each of them implied; levels and reasons of the others stay.
pub record Grows (before after : Lits) (levels levels_after reasons reasons_after : List ℕ) (present : ℕ) : Type 0 where
  pub more : Lits
  pub is : after ≡ before ++ more
  pub levels_kept : (l : Literal) → Has before l → get_or levels_after l.variable 0 ≡ get_or levels l.variable 0
  pub reasons_kept : (l : Literal) → Has before l → get_or reasons_after l.variable 0 ≡ get_or reasons l.variable 0
  pub levels_new : (l : Literal) → Has more l → get_or levels_after l.variable 0 ≡ present
  pub reasons_new : (l : Literal) → Has more l → get_or reasons_after l.variable 0 ≢ 0
