-- The entries of a table as plain values, without what they share.
use Rattle.std.specs.Arc.{arc_value}
use Rattle.journal_defs.specs.Journals.{EntryValue, agreed, installed, evicted}
use Rattle.slot_core.specs.declared.entry.Entry.{Entry}
use Rattle.slot_core.specs.declared.entry.Entry.TheVariants.{Agreed, Installed, Evicted}

-- the value of an entry
abbrev pub entry_value : Entry → EntryValue
entry_value (Agreed lane turn slot net) =
    record { change = agreed (arc_value net); lane = lane; turn = turn; slot = slot }
entry_value (Installed lane turn slot net config) =
    record { change = installed (arc_value net) (arc_value config); lane = lane; turn = turn; slot = slot }
entry_value (Evicted lane turn slot) = record { change = evicted; lane = lane; turn = turn; slot = slot }
