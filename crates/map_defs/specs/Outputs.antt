-- The bits of mapped cells and of their outputs, where the inputs have the bits x. No order of evaluation
-- is named.
use Rattle.std.specs.Prelude.{◌≡◌, ℕ, ◌<◌, List, length, slice_index}
use Rattle.cell_defs.specs.Evaluation.{source_bits, chosen_bit}
use Rattle.map_defs.specs.Mapped.{MappedValue, mapped_cell}

-- The cells have the bits a: each its own of the bits of its pins. All these equations hold at once.
pub record MappedBits (l : MappedValue) (x a : List ℕ) : Type 0 where
  pub count : length a ≡ length l.cells
  pub each : (k : ℕ) → k < length l.cells → slice_index a k ≡ chosen_bit x a (mapped_cell l k)

-- where the inputs have the bits x, the outputs have the bits y
abbrev pub LutOut : MappedValue → List ℕ → List ℕ → Type 0
LutOut l x y = (a : List ℕ) × MappedBits l x a × (y ≡ source_bits x a l.outputs)
