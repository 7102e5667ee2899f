-- How the search for a refutation of the miter ends that tries every input.
use Rattle.std.specs.Prelude.{◌≡◌, ◌≢◌, ℕ, ◌+◌, ◌*◌, ◌<◌, ◌≤◌, List, [], length, take}
use Rattle.net_defs.specs.Networks.{Network}
use Rattle.net_defs.specs.Evaluation.{SpecOut}
use Rattle.fabric_defs.specs.Bits.{IsBits}
use Rattle.fabric_defs.specs.Configurations.{ConfigValue}
use Rattle.fabric_defs.specs.Wirings.{FabOut}
use Rattle.log_defs.specs.Logs.{Words, LogValue, HasDerived}
use Rattle.tree_defs.specs.Budgets.{Enough}
use Rattle.tree_defs.specs.declared.tree_end.TreeEnd.{TreeEnd}
use Rattle.tree_defs.specs.declared.tree_end.TreeEnd.TheVariants.{Empty, Differs, Spent}

-- where the inputs have the bits x, the first output pads don't have the network's outputs
pub record DiffersAt (net : Network) (config : ConfigValue) (x : List ℕ) : Type 0 where
  pub width : IsBits (length net.inputs) x
  pub outputs : List ℕ
  pub pads : List ℕ
  pub of_network : SpecOut net x outputs
  pub of_fabric : FabOut config x pads
  pub other : take (length net.outputs) pads ≢ outputs

-- the log has no empty derived clause
abbrev pub HasNoEmpty : LogValue → Type 0
HasNoEmpty log = (index : ℕ) → HasDerived log [] index → ⊥

-- the log has the empty clause with this index, and last, if it had none before
pub record IsRefuted (before after : LogValue) (index : ℕ) : Type 0 where
  pub empty : HasDerived after [] index
  pub last : HasNoEmpty before → index ≡ length after.originals.clauses + length after.derived

-- the next clause is over the budget, and the budget is less than what is enough
pub record IsSpentAt (net : Network) (before after : LogValue) (used need : ℕ) : Type 0 where
  pub used_is : used ≡ Words after.derived
  pub need_low : 4 ≤ need
  pub need_high : need ≤ 2 * after.originals.variables + 4
  pub over : after.budget < used + need
  pub scarce : after.budget < Words before.derived + Enough (length net.inputs) after.originals.variables

-- the search ends so
abbrev pub TreeEnds : Network → ConfigValue → LogValue → TreeEnd → LogValue → Type 0
TreeEnds net config before (Empty index) after = IsRefuted before after index
TreeEnds net config before (Differs x) after = DiffersAt net config x
TreeEnds net config before (Spent used need) after = IsSpentAt net before after used need
