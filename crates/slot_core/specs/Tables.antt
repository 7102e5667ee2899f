-- What a table keeps.
use Rattle.std.specs.Prelude.{ℕ, ◌^◌, ◌<◌, ◌≤◌, List, length, map, slice_index_or}
use Rattle.fabric_defs.specs.Geometries.{GeometryValue}
use Rattle.journal_defs.specs.Legality.{Legal}
use Rattle.slot_core.specs.declared.entry.Entry.{Entry}
use Rattle.slot_core.specs.declared.place.Place.{Place}
use Rattle.slot_core.specs.Values.{TableValue}
use Rattle.slot_core.specs.Entries.{entry_value}
use Rattle.slot_core.specs.Slots.{IsPlaceAfter}

-- the limit is a number of 32 bits, there is room for the journal, which is legal, and each slot has what it has
-- after the journal
pub record IsKept (g : GeometryValue) (limit capacity : ℕ) (entries : List Entry) (places : List Place)
    : Type 0 where
  pub counted : limit < 2 ^ 32
  pub room : limit ≤ capacity
  pub legal : Legal g (length places) limit (map entry_value entries)
  pub slots : (number : ℕ) (d : Place) → number < length places
      → IsPlaceAfter (map entry_value entries) number (slice_index_or places number d)

-- the journal of the table is legal
abbrev pub IsLegal : TableValue → Type 0
IsLegal t = Legal t.geometry t.slots t.limit t.journal
