-- What clause learning finds, before every input is tried.
use Rattle.std.specs.Prelude.{◌≡◌, ◌≢◌, ℕ, ◌+◌, ◌<◌, ◌≤◌, ◌↔◌, ◌==◌, Bool, if◌then◌else◌, IsTrue, List, length, take, get_or, Option, Some, None}
use Rattle.clause_defs.specs.Clauses.{Lits, Has}
use Rattle.net_defs.specs.Networks.{Network}
use Rattle.net_defs.specs.Evaluation.{SpecOut}
use Rattle.fabric_defs.specs.Bits.{IsBits}
use Rattle.fabric_defs.specs.Configurations.{ConfigValue}
use Rattle.fabric_defs.specs.Wirings.{FabOut}
use Rattle.miter_defs.specs.Numberings.{signal_variable}
use Rattle.log_defs.specs.Logs.{LogValue, Words}
use Rattle.tree_defs.specs.Budgets.{Enough}
use Rattle.tree_defs.specs.Trees.{HasNoEmpty, TreeEnds}
use Rattle.tree_defs.specs.declared.tree_end.TreeEnd.{TreeEnd}
use Rattle.tree_defs.specs.declared.tree_end.TreeEnd.TheVariants.{Differs}

-- what the two circuits give where the inputs have the bits x, and whether the first output pads have other bits than
-- the network's outputs
pub record AreCompared (net : Network) (config : ConfigValue) (x : List ℕ) (other : Bool) : Type 0 where
  pub outputs : List ℕ
  pub pads : List ℕ
  pub of_network : SpecOut net x outputs
  pub of_fabric : FabOut config x pads
  pub other_is : IsTrue other ↔ (take (length net.outputs) pads ≢ outputs)

-- the bits of n inputs are those that their variables have among the true literals
pub record AreInputsAt (lits : Lits) (n : ℕ) (x : List ℕ) : Type 0 where
  pub bits : IsBits n x
  pub values : (i : ℕ) → i < n → Has lits (record { variable = signal_variable i; positive = get_or x i 0 == 1 })

-- the input is answered exactly where the two circuits differ there
abbrev pub IsInputFound : Network → ConfigValue → List ℕ → Option TreeEnd → Type 0
IsInputFound net config x found =
    (other : Bool) × AreCompared net config x other × (found ≡ (if other then Some (Differs x) else None))

-- nothing was found, and where the budget is enough for the search that tries every input, what is left of it is
pub record IsLeft (net : Network) (after : LogValue) : Type 0 where
  pub none_empty : HasNoEmpty after
  pub left : Enough (length net.inputs) after.originals.variables ≤ after.budget
      → Words after.derived + Enough (length net.inputs) after.originals.variables ≤ after.budget

-- clause learning ends so: it has found an end of the search, or left the rest to the one that tries every input
abbrev pub LearningEnds : Network → ConfigValue → LogValue → Option TreeEnd → LogValue → Type 0
LearningEnds net config before None after = IsLeft net after
LearningEnds net config before (Some end) after = TreeEnds net config before end after
