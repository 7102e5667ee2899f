-- What entering a published table does to what a place has seen.
use Rattle.std.specs.Prelude.{◌≡◌, ◌≤◌, [], Some}
use mathlib.Core.List.{IsPrefix}
use Rattle.pch_io.specs.Outside.{Rose}
use Rattle.journal_defs.specs.Legality.{Legal}
use Rattle.slot_core.specs.Values.{TableValue}
use Rattle.live_table.specs.declared.read_end.ReadEnd.{ReadEnd}
use Rattle.live_table.specs.declared.read_end.ReadEnd.TheVariants.{Gone, NoMemory}
use Rattle.live_table.specs.Values.{shape_of, table_of, FrontValue, PlaceValue, ControlValue}

-- it is of the same history and the same shape, and was refused no less often
pub record StaysAt (old new : PlaceValue) : Type 0 where
  pub book : new.book ≡ old.book
  pub shape : new.shape ≡ old.shape
  pub counted : old.refusals ≤ new.refusals

-- one published table was entered. Its journal is legal and begins with all that was seen before, and all of it
-- is seen now
pub record Sees (old new : PlaceValue) : Type 0 where
  pub stays : StaysAt old new
  pub later : IsPrefix old.seen new.seen
  pub legal : Legal new.shape.geometry new.shape.slots new.shape.limit new.seen

-- no table could be entered: the count of refusals rose, and nothing more was seen
pub record Misses (old new : PlaceValue) : Type 0 where
  pub stays : StaysAt old new
  pub same : new.seen ≡ old.seen
  pub cause : Rose old.refusals new.refusals

-- one published table was entered that has all of the front
pub record Learns (front : FrontValue) (old new : PlaceValue) : Type 0 where
  pub sees : Sees old new
  pub learned : IsPrefix front.journal new.seen

-- the table that is seen
abbrev pub seen_table : PlaceValue → TableValue
seen_table p = table_of p.shape p.seen

-- a place that has seen nothing yet, of the device of this control
pub record IsNewAt (control : ControlValue) (p : PlaceValue) : Type 0 where
  pub book : p.book ≡ Some control.book
  pub shape : p.shape ≡ shape_of control.table
  pub seen : p.seen ≡ []

-- why an evaluator that copies a net has no answer: it couldn't enter, or memory was wanting, and it may have
-- entered before that
abbrev pub Ends : PlaceValue → PlaceValue → ReadEnd → Type 0
Ends old new Gone = Misses old new
Ends old new NoMemory = Sees old new
