-- What publishing an entry does.
use Rattle.std.specs.Prelude.{◌≡◌, ◌+◌, length}
use Rattle.journal_defs.specs.Journals.{EntryValue}
use Rattle.live_table.specs.Values.{ControlValue, with_entry}
use Rattle.live_table.specs.declared.receipt.Receipt.{Receipt}

-- the table has this entry more, and the receipt has its number and a front that stands for the whole journal
pub record IsPublished (old new : ControlValue) (e : EntryValue) (r : Receipt) : Type 0 where
  pub control : new ≡ record old { table = with_entry old.table e }
  pub number : r.at ≡ length old.table.journal + 1
  pub front : r.front ≡ record { book = new.book; journal = new.table.journal }
