-- An input of the network, extended to an assignment of the miter's variables.
use Rattle.std.specs.Prelude.{◌≡◌, ◌≢◌, ℕ, ◌-◌, ◌<◌, List, length, map, take, slice_get, slice_index, Some}
use Rattle.clause_defs.specs.Clauses.{Lits, Has, IsAssignment, Satisfies, clause_of}
use Rattle.net_defs.specs.Networks.{Network}
use Rattle.net_defs.specs.Evaluation.{SpecOut}
use Rattle.cell_defs.specs.Cells.{CellsValue}
use Rattle.cell_defs.specs.Evaluation.{CellBits, output_bits}
use Rattle.miter_defs.specs.Numberings.{signal_variable, variable_count}
use Rattle.miter_defs.specs.Miters.{circuit_clauses, some_difference}

-- the assignment gives the variable this bit
abbrev pub GivesBit : List ℕ → ℕ → ℕ → Type 0
GivesBit a variable b = slice_get a (variable - 1) ≡ Some b

-- where the inputs and the input pads have the bits x, the network's outputs and the first output pads differ
abbrev pub OutputsDiffer : Network → CellsValue → List ℕ → Type 0
OutputsDiffer net cells x =
    (y : List ℕ) × (bits : List ℕ) × SpecOut net x y × CellBits cells x bits
    × (take (length net.outputs) (output_bits cells x bits) ≢ y)

-- The inputs have the bits x, every clause of the miter but the last is satisfied, and where outputs differ
-- the last one is too.
pub record Extends (net : Network) (cells : CellsValue) (x a : List ℕ) : Type 0 where
  pub assignment : IsAssignment (variable_count net cells) a
  pub inputs : (i : ℕ) → i < length net.inputs → GivesBit a (signal_variable i) (slice_index x i)
  pub circuits : (c : Lits) → Has (map clause_of (circuit_clauses net cells)) c → Satisfies a c
  pub difference : OutputsDiffer net cells x → Satisfies a (clause_of (some_difference net cells))
