-- What contracts see of tables of one device, of fronts, of places and of a control.
use Rattle.std.specs.Prelude.{◌≡◌, ℕ, Bool, List, [], ◌∷◌, ◌++◌, Option}
use Rattle.logbook.specs.Pages.{Book}
use Rattle.fabric_defs.specs.declared.kind.CellKind.TheVariants.{FourInputs}
use Rattle.fabric_defs.specs.Geometries.{GeometryValue}
use Rattle.journal_defs.specs.Journals.{EntryValue}
use Rattle.slot_core.specs.Values.{TableValue}

-- what all tables of one device have in common: the fabric of each slot, how many slots there are, and the most
-- entries that the journal may have
pub record Shape : Type 0 where
  pub geometry : GeometryValue
  pub slots : ℕ
  pub limit : ℕ

-- the shape of no device
abbrev pub no_shape : Shape
no_shape = record {
  geometry =
      record { kind = FourInputs; columns = 0; rows = 0; tracks = 0; input_pads = 0; output_pads = 0 };
  slots = 0;
  limit = 0;
}

-- the shape of a table
abbrev pub shape_of : TableValue → Shape
shape_of t = record { geometry = t.geometry; slots = t.slots; limit = t.limit }

-- the table of this shape with this journal
abbrev pub table_of : Shape → List EntryValue → TableValue
table_of s journal = record { geometry = s.geometry; slots = s.slots; limit = s.limit; journal = journal }

-- the table with one entry more
abbrev pub with_entry : TableValue → EntryValue → TableValue
with_entry t e = record t { journal = t.journal ++ e ∷ [] }

-- a front: the book of one history, which no other `open` has, and the beginning of it that the front stands for
pub record FrontValue : Type 0 where
  pub book : Book
  pub journal : List EntryValue

-- a place from which tables of this shape are looked at: the book of its history, where it has one, the entries
-- that it has seen, and how often it was refused to enter
pub record PlaceValue : Type 0 where
  pub book : Option Book
  pub shape : Shape
  pub seen : List EntryValue
  pub refusals : ℕ

-- a control: the book of its history, its table, and whether it has failed for want of memory
pub record ControlValue : Type 0 where
  pub book : Book
  pub table : TableValue
  pub broken : Bool

-- an entry on its way into the published copies, with a front that stands for the journal with it
pub record ChangeValue : Type 0 where
  pub entry : EntryValue
  pub front : FrontValue
