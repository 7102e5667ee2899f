-- How one branch of the search ends.
use Rattle.std.specs.Prelude.{◌≡◌, ℕ, zero, suc, ◌+◌, ◌-◌, ◌==◌, ◌<◌, ◌≤◌, not, List, [], length, get_or, Result, Ok, Err}
use Rattle.clause_defs.specs.Literals.{Literal}
use Rattle.clause_defs.specs.Clauses.{Lits, Has}
use Rattle.fabric_defs.specs.Configurations.{ConfigValue, IsConfig}
use Rattle.cell_defs.specs.Sources.{AreCellsOf}
use Rattle.miter_cnf.specs.Circuits.{Circuits}
use Rattle.miter_defs.specs.Numberings.{signal_variable, variable_count}
use Rattle.miter_defs.specs.Miters.{Miter}
use Rattle.log_defs.specs.Logs.{LogValue, Words, HasDerived, Extends, clause_of_log}
use Rattle.log_defs.specs.declared.log_end.LogEnd.{LogEnd}
use Rattle.log_defs.specs.declared.log_end.LogEnd.TheVariants.{Kept, Spent as OverBudget}
use Rattle.tree_defs.specs.Trees.{HasNoEmpty, DiffersAt}
use Rattle.tree_defs.specs.declared.tree_end.TreeEnd.{TreeEnd}
use Rattle.tree_defs.specs.declared.tree_end.TreeEnd.TheVariants.{Empty, Differs, Spent}

-- the most words of one clause
abbrev pub most_words : Circuits → ℕ
most_words c = variable_count c.net c.cells + length c.net.inputs + 5

-- the most words of a branch with so many inputs below it
abbrev pub branch_words : ℕ → ℕ → ℕ
branch_words zero w = w
branch_words (suc m) w = branch_words m w + branch_words m w + w

-- the clause is false where the first i inputs have the bits x, and has no other variables
abbrev pub IsUnder : List ℕ → ℕ → Lits → Type 0
IsUnder x i c = (l : Literal) → Has c l
    → (j : ℕ) × (j < i) × (l ≡ record { variable = signal_variable j; positive = not (get_or x j 0 == 1) })

-- A branch below input i gives the clause with the index, in so many words at most. An empty one is the last.
pub record IsBranch (c : Circuits) (x : List ℕ) (i room : ℕ) (before after : LogValue) (index : ℕ) : Type 0 where
  pub log_is : Extends before after
  pub behind_originals : length after.originals.clauses < index
  pub within : index ≤ length after.originals.clauses + length after.derived
  pub under : IsUnder x i (clause_of_log after index)
  pub first_empty : HasNoEmpty before → (k : ℕ) → HasDerived after [] k
      → (k ≡ index) × (k ≡ length after.originals.clauses + length after.derived)
  pub words : Words after.derived ≤ Words before.derived + room

-- the next clause of the branch is over the budget
pub record IsCut (c : Circuits) (room : ℕ) (before after : LogValue) (used need : ℕ) : Type 0 where
  pub log_is : Extends before after
  pub used_is : used ≡ Words after.derived
  pub need_low : 4 ≤ need
  pub need_high : need ≤ variable_count c.net c.cells + 4
  pub over : after.budget < used + need
  pub scarce : after.budget < Words before.derived + room

-- the branch below input i ends so
abbrev pub BranchEnds : Circuits → List ℕ → ℕ → ℕ → LogValue → Result ℕ TreeEnd → LogValue → Type 0
BranchEnds c x i room before (Ok index) after = IsBranch c x i room before after index
BranchEnds c x i room before (Err (Empty index)) after = ⊥
BranchEnds c x i room before (Err (Differs y)) after =
    Extends before after × ((config : ConfigValue) → IsConfig config → AreCellsOf config c.cells → DiffersAt c.net config y)
BranchEnds c x i room before (Err (Spent used need)) after = IsCut c room before after used need

-- the log of the miter of two circuits
pub record IsOfMiter (c : Circuits) (log : LogValue) : Type 0 where
  pub originals : log.originals ≡ Miter c.net c.cells

-- the most words of the branch below input i
abbrev pub room_below : Circuits → ℕ → ℕ
room_below c i = branch_words (length c.net.inputs - i) (most_words c)

-- an end of the log as one of the search
abbrev pub ended : Result ℕ LogEnd → Result ℕ TreeEnd
ended (Ok index) = Ok index
ended (Err (Kept index)) = Ok index
ended (Err (OverBudget used need)) = Err (Spent used need)

-- the clause has a literal of the variable
abbrev pub HasVariable : Lits → ℕ → Type 0
HasVariable c v = (l : Literal) × Has c l × (l.variable ≡ v)
