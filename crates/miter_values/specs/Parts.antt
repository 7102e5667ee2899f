-- The parts of the two circuits of a miter, and their variables.
use Rattle.std.specs.Prelude.{◌≡◌, ℕ, ◌+◌, ◌^◌, ◌<◌, ◌≤◌, ◌⊎◌, Bool, true, false, not, Option, Some, None, List, length, map, get_or, All}
use Rattle.clause_defs.specs.Literals.{Literal}
use Rattle.clause_defs.specs.Clauses.{Lits, Has, clause_of}
use Rattle.net_defs.specs.Networks.{Network, node_at, signals}
use Rattle.fabric_defs.specs.Geometries.{cell_count}
use Rattle.cell_defs.specs.declared.source.Source.{Source}
use Rattle.cell_defs.specs.declared.source.Source.TheVariants.{Zero as NoSource, Cell}
use Rattle.cell_defs.specs.Cones.{in_cone}
use Rattle.cell_defs.specs.Cells.{CellsValue, IsSourceBelow}
use Rattle.miter_defs.specs.Numberings.{zero_variable, signal_variable, node_variable, row_variable, cell_variable, difference_variable, variable_count, source_variable}
use Rattle.miter_defs.specs.Miters.{no_output, circuit_clauses, some_difference}
use Rattle.miter_cnf.specs.Numbered.{NumberingValue}
use Rattle.miter_cnf.specs.Circuits.{Circuits, AreNumbered}
use Rattle.leaf_defs.specs.Evaluated.{Evaluated, value_of, variable_at, IsFalseAmong, IsEvaluated}
use Rattle.miter_places.specs.Places.{PlacesValue, places_of}
use Rattle.miter_values.specs.Growing.{IsTrueIn, IsFalseIn, Grows}

-- all clauses of the miter but the last
abbrev pub circuits_of : Network → CellsValue → List Lits
circuits_of net cells = map clause_of (circuit_clauses net cells)

-- the numbers of the variables and of the clauses of two circuits
pub record HaveNumbers (net : Network) (cells : CellsValue) (m : NumberingValue) (p : PlacesValue) : Type 0 where
  pub numbered : AreNumbered net cells m
  pub places : p ≡ places_of net cells
  pub few : length (circuits_of net cells) + 1 < 2 ^ 32

-- an evaluation by clauses of the two circuits, with a place for each variable
pub record IsValued (c : Circuits) (e : Evaluated) : Type 0 where
  pub evaluated : IsEvaluated (circuits_of c.net c.cells) e
  pub places : length e.values ≡ variable_count c.net c.cells + 1

-- all of these signals have a value
abbrev pub AreKnown : Evaluated → List ℕ → Type 0
AreKnown e ss = (s : ℕ) → Has ss s → Has e.order (signal_variable s)

-- of the literals, all of which are known, either all are true, and there are so many; or the one at this place is false
abbrev pub IsRowValue : Evaluated → Lits → Bool → ℕ → Type 0
IsRowValue e asked true n = (n ≡ length asked) × ((l : Literal) → Has asked l → IsTrueIn e l)
IsRowValue e asked false n = (n < length asked) × ((d : Literal) → IsFalseIn e (get_or asked n d))

-- a variable of the first rows of node v
abbrev pub IsRowOf : Network → ℕ → ℕ → ℕ → Type 0
IsRowOf net v rows u = (row_variable net v 0 ≤ u) × (u < row_variable net v rows)

-- a variable of node v or of its rows
abbrev pub IsOfNode : Network → ℕ → ℕ → Type 0
IsOfNode net v u = IsRowOf net v (length (node_at net v).rows) u ⊎ (u ≡ node_variable net v)

-- a variable of one of these nodes, or of a row of it
abbrev pub IsOfNodes : Network → List ℕ → ℕ → Type 0
IsOfNodes net nodes u = (v : ℕ) × Has nodes v × IsOfNode net v u

-- a variable of some node, or of a row of it
abbrev pub IsOfSomeNode : Network → ℕ → Type 0
IsOfSomeNode net u = (v : ℕ) × (v < length net.nodes) × IsOfNode net v u

-- one of the first rows of node v hits, if a row is named, and else none does
abbrev pub IsHit : Network → ℕ → Evaluated → ℕ → Option ℕ → Type 0
IsHit net v e rows (Some r) = (r < rows) × (value_of e.values (row_variable net v r) ≡ true)
IsHit net v e rows None = (r : ℕ) → r < rows → value_of e.values (row_variable net v r) ≡ false

-- row r is the latest that hits, if it does
abbrev pub later : Option ℕ → ℕ → Bool → Option ℕ
later hit r true = Some r
later hit r false = hit

-- which of the clauses of a node itself gives it its value
abbrev pub cover_place : Option ℕ → ℕ
cover_place (Some r) = r + 1
cover_place None = 0

-- the value of a node with this sign
abbrev pub node_value : Bool → Option ℕ → Bool
node_value on (Some r) = on
node_value on None = not on

-- the bit of a value
abbrev pub bit_of : Bool → ℕ
bit_of true = 1
bit_of false = 0

-- the bit of what a pin or an output pad listens to
abbrev pub source_value : Network → CellsValue → Evaluated → Source → ℕ
source_value net cells e source = bit_of (value_of e.values (source_variable net cells source))

-- the variables of the cells of the cone below k
abbrev pub IsOfCells : Network → CellsValue → ℕ → ℕ → Type 0
IsOfCells net cells k u = (cell_variable net cells 0 ≤ u) × (u < cell_variable net cells k)

-- what these listen to has a value
abbrev pub HaveValues : Circuits → Evaluated → List Source → Type 0
HaveValues c e sources = (source : Source) → Has sources source → Has e.order (source_variable c.net c.cells source)

-- they listen to pads of the fabric and to cells of the cone
pub record AreInside (c : Circuits) (sources : List Source) : Type 0 where
  pub below : All (IsSourceBelow c.cells.geometry.input_pads (cell_count c.cells.geometry)) sources
  pub inside : (k : ℕ) → Has sources (Cell k) → in_cone c.cells k ≡ true

-- the differences of the first outputs
abbrev pub IsDifference : Network → CellsValue → ℕ → ℕ → Type 0
IsDifference net cells n u = (difference_variable net cells 0 ≤ u) × (u < difference_variable net cells n)

-- signals, the variable that is false, and the cells of the cone have values, and no difference has one
pub record AreDone (c : Circuits) (e : Evaluated) : Type 0 where
  pub signals_known : (s : ℕ) → s < signals c.net → Has e.order (signal_variable s)
  pub zero_known : Has e.order zero_variable
  pub cells_known : (k : ℕ) → k < cell_count c.cells.geometry → in_cone c.cells k ≡ true → Has e.order (cell_variable c.net c.cells k)
  pub fresh : (u : ℕ) → Has e.order u → u < difference_variable c.net c.cells 0

-- the signal of output o of the network
abbrev pub output_signal : Network → ℕ → ℕ
output_signal net o = (get_or net.outputs o no_output).signal

-- the source of output pad o
abbrev pub output_source : CellsValue → ℕ → Source
output_source cells o = get_or cells.outputs o NoSource

-- output o and its pad have values that differ
pub record DifferHere (c : Circuits) (e : Evaluated) (o : ℕ) : Type 0 where
  pub within : o < length c.net.outputs
  pub signal_known : Has e.order (signal_variable (output_signal c.net o))
  pub source_known : Has e.order (source_variable c.net c.cells (output_source c.cells o))
  pub other : value_of e.values (signal_variable (output_signal c.net o)) ≡ value_of e.values (source_variable c.net c.cells (output_source c.cells o)) → ⊥

-- all outputs are the same, and each difference is false
pub record AreSame (c : Circuits) (before after : Evaluated) (n : ℕ) : Type 0 where
  pub grows : Grows (circuits_of c.net c.cells) before after (IsDifference c.net c.cells n)
  pub all_false : (o : ℕ) → o < n → value_of after.values (difference_variable c.net c.cells o) ≡ false

-- the inputs were chosen, in their order, and have the bits x
pub record HasInputs (net : Network) (x : List ℕ) (e : Evaluated) : Type 0 where
  pub chosen : e.chosen ≡ length net.inputs
  pub order : (i : ℕ) → i < length net.inputs → variable_at e.order i ≡ signal_variable i
  pub bits : (i : ℕ) → i < length net.inputs → bit_of (value_of e.values (signal_variable i)) ≡ get_or x i 0
  pub many : length net.inputs ≤ length e.order

-- just the first n inputs have values
pub record AreChosen (f : List Lits) (x : List ℕ) (n : ℕ) (e : Evaluated) : Type 0 where
  pub evaluated : IsEvaluated f e
  pub chosen : e.chosen ≡ n
  pub count : length e.order ≡ n
  pub order : (i : ℕ) → i < n → variable_at e.order i ≡ signal_variable i
  pub known : (u : ℕ) → Has e.order u → (2 ≤ u) × (u < 2 + n)
  pub bits : (i : ℕ) → i < n → bit_of (value_of e.values (signal_variable i)) ≡ get_or x i 0

-- all outputs are the same: the clause that some output differs is false
pub record IsSameAt (c : Circuits) (e : Evaluated) : Type 0 where
  pub evaluated : IsEvaluated (circuits_of c.net c.cells) e
  pub last_false : IsFalseAmong e.values e.order (clause_of (some_difference c.net c.cells))

-- the outputs differ somewhere
pub record IsOtherAt (c : Circuits) (e : Evaluated) (o : ℕ) : Type 0 where
  pub evaluated : IsEvaluated (circuits_of c.net c.cells) e
  pub differ : DifferHere c e o
