-- What an evaluation leaves behind: the bits of the cells of a fabric.
use Rattle.std.specs.Prelude.{ℕ, List}
use Rattle.fabric_defs.specs.Geometries.{GeometryValue}

-- the fabric that was evaluated, and the bit of each of its cells
pub record WiresValue : Type 0 where
  pub geometry : GeometryValue
  pub cells : List ℕ
