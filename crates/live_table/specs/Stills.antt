-- What is seen from a place with one table.
use Rattle.std.specs.Prelude.{Bool, true, false, List, [], None}
use Rattle.journal_defs.specs.Journals.{EntryValue}
use Rattle.slot_core.specs.Values.{TableValue}
use Rattle.live_table.specs.Values.{PlaceValue, shape_of}
use Rattle.live_table.specs.declared.still.StillPlace.{StillPlace}

-- what is seen of a table: its journal, once it was entered
abbrev pub seen_in : Bool → TableValue → List EntryValue
seen_in true t = t.journal
seen_in false t = []

-- the place is of no history, its tables have the shape of its one table, and it was never refused
abbrev pub still_value : StillPlace → PlaceValue
still_value p = record { book = None; shape = shape_of p.table; seen = seen_in p.entered p.table; refusals = 0 }
