-- What contracts see of a table.
use Rattle.std.specs.Prelude.{ℕ, List}
use Rattle.fabric_defs.specs.Geometries.{GeometryValue}
use Rattle.journal_defs.specs.Journals.{EntryValue}

-- the fabric of each slot, how many slots there are, the most entries that the journal may have, and the journal
pub record TableValue : Type 0 where
  pub geometry : GeometryValue
  pub slots : ℕ
  pub limit : ℕ
  pub journal : List EntryValue
