-- How producing ends: with the placed design and a log that refutes its miter, or with a cause.
use Rattle.std.specs.Prelude.{◌≡◌, ◌≢◌, ℕ, ◌+◌, ◌*◌, ◌<◌, ◌≤◌, List, length, Some, Result, Ok, Err}
use Rattle.net_defs.specs.Networks.{Network}
use Rattle.net_defs.specs.Evaluation.{SpecOut}
use Rattle.net_defs.specs.Interfaces.{PlacePairs, IsPairing, Pairs, InterfaceOf}
use Rattle.net_defs.specs.Alignments.{IsAligned}
use Rattle.fabric_defs.specs.Bits.{IsBits}
use Rattle.fabric_defs.specs.Geometries.{GeometryValue}
use Rattle.fabric_defs.specs.Configurations.{ConfigValue}
use Rattle.cell_defs.specs.Cells.{CellsValue}
use Rattle.cell_defs.specs.Sources.{AreCellsOf}
use Rattle.miter_defs.specs.Miters.{Miter}
use Rattle.log_defs.specs.Logs.{LogValue, IsLog, Words}
use Rattle.log_defs.specs.LogTraces.{EndsWithEmpty}
use Rattle.tree_defs.specs.Budgets.{Enough}
use Rattle.tree_defs.specs.Trees.{DiffersAt}
use Rattle.tree_defs.specs.declared.tree_end.TreeEnd.{TreeEnd}
use Rattle.tree_defs.specs.declared.tree_end.TreeEnd.TheVariants.{Empty, Differs as DiffersInSearch, Spent as SpentInSearch}
use Rattle.place_net.specs.Placings.{Placed, FirstOver}
use Rattle.miter_defs.specs.Equality.{Equal}
use Rattle.miter_size.specs.Sizes.{HasShortTrace}
use Rattle.produce.specs.declared.produce_end.ProduceEnd.{ProduceEnd}
use Rattle.produce.specs.declared.produce_end.ProduceEnd.TheVariants.{Interface, Unroutable, Differs, Spent, NoMemory}

-- the design in the order of the specification's names
pub record AlignedTo (spec design net : Network) : Type 0 where
  pub pairing : PlacePairs
  pub is_pairing : IsPairing spec design pairing
  pub pairs : Pairs design pairing
  pub aligned : IsAligned design pairing net

-- where the inputs have the bits x, the two networks have different outputs
pub record HaveOtherOutputs (spec net : Network) (x : List ℕ) : Type 0 where
  pub width : IsBits (length spec.inputs) x
  pub outputs : List ℕ
  pub others : List ℕ
  pub of_spec : SpecOut spec x outputs
  pub of_net : SpecOut net x others
  pub differ : outputs ≢ others

-- the clauses of the log are the miter of the specification and the configuration
abbrev pub IsOverMiter : Network → ConfigValue → LogValue → Type 0
IsOverMiter spec config log = (cells : CellsValue) → AreCellsOf config cells → log.originals ≡ Miter spec cells

-- the log refutes the miter within the budget, and its text can be read
pub record Refuted (spec : Network) (config : ConfigValue) (budget : ℕ) (log : LogValue) : Type 0 where
  pub over_miter : IsOverMiter spec config log
  pub is_log : IsLog log
  pub short : HasShortTrace log
  pub budget_is : log.budget ≡ budget
  pub empty : EndsWithEmpty log.originals.clauses log.derived

-- The next clause of the search is over the budget, and the budget is less than what is enough. The log has the
-- clauses that the words were spent on, and its text can be read.
pub record SpentAt (spec : Network) (config : ConfigValue) (budget used need : ℕ) (log : LogValue) : Type 0 where
  pub over_miter : IsOverMiter spec config log
  pub is_log : IsLog log
  pub short : HasShortTrace log
  pub budget_is : log.budget ≡ budget
  pub used_is : used ≡ Words log.derived
  pub need_low : 4 ≤ need
  pub need_high : need ≤ 2 * log.originals.variables + 4
  pub over : budget < used + need
  pub scarce : budget < Enough (length spec.inputs) log.originals.variables

-- the first name without a partner, or want of memory
abbrev pub Unaligned : Network → Network → ProduceEnd → Type 0
Unaligned spec design (Interface error) = InterfaceOf spec design (Err error)
Unaligned spec design (Unroutable resource place need have) = ⊥
Unaligned spec design (Differs x) = ⊥
Unaligned spec design (Spent used need log) = ⊥
Unaligned spec design NoMemory = Unit {0}

-- the first resource that is wanting, or want of memory
abbrev pub Unplaced : Network → GeometryValue → ProduceEnd → Type 0
Unplaced net g (Interface error) = ⊥
Unplaced net g (Unroutable resource place need have) =
    FirstOver net g (Some (record { resource = resource; place = place; need = need; have = have }))
Unplaced net g (Differs x) = ⊥
Unplaced net g (Spent used need log) = ⊥
Unplaced net g NoMemory = Unit {0}

-- an input at which the two differ, the spent budget, or want of memory
abbrev pub Unrefuted : Network → ConfigValue → ℕ → ProduceEnd → Type 0
Unrefuted spec config budget (Interface error) = ⊥
Unrefuted spec config budget (Unroutable resource place need have) = ⊥
Unrefuted spec config budget (Differs x) = DiffersAt spec config x
Unrefuted spec config budget (Spent used need log) = SpentAt spec config budget used need log
Unrefuted spec config budget NoMemory = Unit {0}

-- an end of the search as an answer
abbrev pub answer_of : TreeEnd → LogValue → Result LogValue ProduceEnd
answer_of (Empty index) log = Ok log
answer_of (DiffersInSearch x) log = Err (Differs x)
answer_of (SpentInSearch used need) log = Err (Spent used need log)

-- the placed design, which computes the design, and a log that refutes the miter of the specification and this
pub record IsRefutation (spec design : Network) (g : GeometryValue) (budget : ℕ) (config : ConfigValue) (log : LogValue) : Type 0 where
  pub net : Network
  pub aligned : AlignedTo spec design net
  pub placed : Placed net g config
  pub equal : Equal net config
  pub refuted : Refuted spec config budget log

-- The cause of each end. An interface that doesn't pair stands before a resource that is wanting, and both stand
-- before the rest.
abbrev pub EndsBy : Network → Network → GeometryValue → ℕ → ProduceEnd → Type 0
EndsBy spec design g budget (Interface error) = InterfaceOf spec design (Err error)
EndsBy spec design g budget (Unroutable resource place need have) =
    (net : Network) × AlignedTo spec design net
    × FirstOver net g (Some (record { resource = resource; place = place; need = need; have = have }))
EndsBy spec design g budget (Differs x) =
    (net : Network) × AlignedTo spec design net
    × (config : ConfigValue) × Placed net g config × HaveOtherOutputs spec net x
EndsBy spec design g budget (Spent used need log) =
    (net : Network) × AlignedTo spec design net
    × (config : ConfigValue) × Placed net g config × SpentAt spec config budget used need log
EndsBy spec design g budget NoMemory = Unit {0}
