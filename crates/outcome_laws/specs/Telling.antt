-- How far the bytes of a command's files determine what it comes to.
use Rattle.std.specs.Prelude.{◌≡◌, ◌≢◌, ◌⊎◌, ◌≤◌, ℕ, List, length, Option, Some, None}
use Rattle.net_defs.specs.Networks.{Network}
use Rattle.net_defs.specs.Evaluation.{SpecOut}
use Rattle.fabric_defs.specs.Bits.{IsBits}
use Rattle.fabric_defs.specs.Geometries.{GeometryValue}
use Rattle.fabric_defs.specs.Configurations.{ConfigValue}
use Rattle.cell_defs.specs.Cells.{CellsValue}
use Rattle.cell_defs.specs.Sources.{AreCellsOf}
use Rattle.miter_defs.specs.Miters.{Miter}
use Rattle.tree_defs.specs.Budgets.{Enough}
use Rattle.place_net.specs.Placings.{Placed}
use Rattle.route_defs.specs.declared.demand.Demand.{Demand}
use Rattle.pch_io.specs.Outside.{Rose, Appends}
use Rattle.pch_lines.specs.Words.{Form, check, verify, cnf, compact, place, produce, demo}
use Rattle.pch_lines.specs.RouteLines.{unroutable_line}
use Rattle.pch_shell.specs.Outcomes.{Outcome, unroutable}
use Rattle.pch_shell.specs.Runs.{StoreState, SinkState}
use Rattle.pch_shell.specs.declared.status.Status.{Status}
use Rattle.pch_shell.specs.declared.status.Status.TheVariants.{Done, Store, Sink, Memory, Differs, Spent}

-- the outcomes have the same status and the same text
abbrev pub AreToldAlike : Outcome → Outcome → Type 0
AreToldAlike o p = (o.status ≡ p.status) × (o.text ≡ p.text)

-- A command whose files determine the status and the text: each but `produce` and `demo`, which may find any bundle and
-- any difference, or spend a budget that is less than what is enough.
abbrev pub TellsOneThing : Form → Type 0
TellsOneThing (check cnf_name trace_name) = Unit {0}
TellsOneThing (verify spec_name bundle_name g workers) = Unit {0}
TellsOneThing (cnf spec_name bundle_name) = Unit {0}
TellsOneThing (compact bundle_name out_name) = Unit {0}
TellsOneThing (place design_name g out_name) = Unit {0}
TellsOneThing (produce spec_name design_name g budget out_name) = ⊥
TellsOneThing (demo bits out_name) = ⊥

-- A command whose files determine the bytes that it saves: each but `produce`, `demo` and `place`, which may save any
-- configuration that places the design.
abbrev pub SavesOneThing : Form → Type 0
SavesOneThing (check cnf_name trace_name) = Unit {0}
SavesOneThing (verify spec_name bundle_name g workers) = Unit {0}
SavesOneThing (cnf spec_name bundle_name) = Unit {0}
SavesOneThing (compact bundle_name out_name) = Unit {0}
SavesOneThing (place design_name g out_name) = ⊥
SavesOneThing (produce spec_name design_name g budget out_name) = ⊥
SavesOneThing (demo bits out_name) = ⊥

-- A run ends as the outcome says: with its status, when its text was written; or a fault of the outside was counted,
-- and the status says which; or memory was wanting.
abbrev pub EndsAs : Outcome → (old new : StoreState) → (before after : SinkState) → Status → Type 0
EndsAs o old new before after status =
    ((status ≡ o.status) × Appends before.held after.held o.text)
    ⊎ (((status ≡ Store) × Rose old.faults new.faults)
    ⊎ (((status ≡ Sink) × Rose before.faults after.faults)
    ⊎ (status ≡ Memory)))

-- what `place` comes to where this is the first resource that is over, if one is
abbrev pub IsAnsweredBy : Option Demand → Outcome → Type 0
IsAnsweredBy None o = o.status ≡ Done
IsAnsweredBy (Some over) o = o ≡ unroutable (unroutable_line over)

-- ---- what `produce` comes to

-- whatever bits the inputs have, the other network has the same outputs
abbrev pub HaveSameOutputs : Network → Network → Type 0
HaveSameOutputs net other = (x y : List ℕ) → IsBits (length net.inputs) x → SpecOut net x y → SpecOut other x y

-- the budget is enough for the miter of the network and each placed design
abbrev pub IsEnoughFor : (wanted net : Network) → GeometryValue → (budget : ℕ) → Type 0
IsEnoughFor wanted net g budget =
    (config : ConfigValue) (cells : CellsValue) → Placed net g config → AreCellsOf config cells
    → Enough (length wanted.inputs) (Miter wanted cells).variables ≤ budget

-- There is a bundle where both have the same outputs, and a difference where they haven't; or the budget is spent, but
-- not where it is enough.
pub record IsSearched (wanted net : Network) (g : GeometryValue) (budget : ℕ) (o : Outcome) : Type 0 where
  pub same : HaveSameOutputs wanted net → (o.status ≡ Done) ⊎ (o.status ≡ Spent)
  pub other : (HaveSameOutputs wanted net → ⊥) → (o.status ≡ Differs) ⊎ (o.status ≡ Spent)
  pub enough : IsEnoughFor wanted net g budget → o.status ≢ Spent
