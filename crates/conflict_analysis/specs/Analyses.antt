-- What a conflict teaches, over the list of the true literals, with levels and reasons by variable.
use Rattle.std.specs.Prelude.{◌≡◌, ◌≢◌, ℕ, ◌+◌, ◌<◌, ◌≤◌, ◌⊎◌, List, length, map, take, get_or}
use Rattle.clause_defs.specs.Literals.{Literal, negation}
use Rattle.clause_defs.specs.Clauses.{Lits, Has, IsOrdered}
use Rattle.clause_defs.specs.Resolution.{Resolves}
use Rattle.log_defs.specs.Logs.{LogValue, IsIndexOf, clause_of_log}
use Rattle.trail_defs.specs.Assignments.{IsAssignmentOf, IsConflict, IsAt, Implies}

-- the level of the literal's variable
abbrev pub level_in : List ℕ → Literal → ℕ
level_in levels l = get_or levels l.variable 0

-- the number of the clause that implied the literal; 0 for one that was decided
abbrev pub reason_in : List ℕ → Literal → ℕ
reason_in reasons l = get_or reasons l.variable 0

-- the clause of the log with this index implied the literal at place i
pub record IsReasonAt (log : LogValue) (trail : Lits) (i index : ℕ) : Type 0 where
  pub index_is : IsIndexOf log index
  pub implies : (l : Literal) → IsAt trail i l → Implies (take i trail) (clause_of_log log index) l

-- A trail whose reasons are clauses of the log: the index of the clause with a number stands at that place of
-- `indices`. Levels rise to the present one, and each has one literal that was decided, its first; level 0 has none.
pub record IsReasoned (log : LogValue) (present : ℕ) (trail : Lits) (levels reasons indices : List ℕ) : Type 0 where
  pub assignment : IsAssignmentOf log.originals.variables trail
  pub level_size : log.originals.variables < length levels
  pub reason_size : log.originals.variables < length reasons
  pub numbers : (l : Literal) → Has trail l → reason_in reasons l < length indices
  pub implied : (i : ℕ) (l : Literal) → IsAt trail i l → reason_in reasons l ≢ 0
      → IsReasonAt log trail i (get_or indices (reason_in reasons l) 0)
  pub decided : (i : ℕ) (l m : Literal) → IsAt trail i l → reason_in reasons l ≡ 0 → Has (take i trail) m → level_in levels m ≢ level_in levels l
  pub no_decision : (l : Literal) → Has trail l → level_in levels l ≡ 0 → reason_in reasons l ≢ 0
  pub rising : (i : ℕ) (l m : Literal) → IsAt trail i l → Has (take i trail) m → level_in levels m ≤ level_in levels l
  pub top : (l : Literal) → Has trail l → level_in levels l ≤ present

-- no literal of level 0 is left that stands at place i or behind it
abbrev pub HasNoRootFrom : Lits → List ℕ → ℕ → Lits → Type 0
HasNoRootFrom trail levels i c = (x : Literal) → Has c x → level_in levels x ≡ 0 → Has (take i trail) (negation x)

-- one literal of the clause is of the present level, and the others are of lower ones
pub record IsAsserting (levels : List ℕ) (present : ℕ) (c : Lits) (u : Literal) : Type 0 where
  pub there : Has c u
  pub own : level_in levels u ≡ present
  pub others : (x : Literal) → Has c x → x ≢ u → level_in levels x < present

-- The clause c follows from the clauses of the log with these indices, is false under the trail, and has no literal
-- of level 0.
pub record IsLesson (log : LogValue) (trail : Lits) (levels antecedents : List ℕ) (c : Lits) : Type 0 where
  pub resolves : Resolves (map (clause_of_log log) antecedents) c
  pub indices_are : (index : ℕ) → Has antecedents index → IsIndexOf log index
  pub ordered : IsOrdered c
  pub all_false : IsConflict trail c
  pub no_root : (x : Literal) → Has c x → level_in levels x ≢ 0
  pub few_antecedents : length antecedents ≤ log.originals.variables + 1
  pub few_literals : length c ≤ log.originals.variables

-- the second greatest level of an asserting clause: the greatest of its other literals, or 0 where it has none
pub record IsSecondLevel (levels : List ℕ) (present : ℕ) (c : Lits) (u : Literal) (b : ℕ) : Type 0 where
  pub lower : b < present
  pub most : (x : Literal) → Has c x → x ≢ u → level_in levels x ≤ b
  pub reached : (b ≡ 0) ⊎ ((x : Literal) × Has c x × (x ≢ u) × (level_in levels x ≡ b))
