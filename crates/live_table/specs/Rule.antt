-- The rule of the published copies, and what each kind of step keeps of it.
use Rattle.std.specs.Prelude.{◌≡◌, ℕ, List, [], ◌∷◌, ◌++◌, Option, Some, None}
use mathlib.Core.List.{IsPrefix}
use mathlib.Core.Option.{some}
use lib.ListN.{get_elem?}
use Rattle.slot_core.specs.Tables.{IsLegal}
use Rattle.live_table.specs.Values.{Shape, no_shape, shape_of, with_entry, FrontValue, ChangeValue}
use Rattle.live_table.specs.declared.published.Published.{Published}

-- the front of the copy stands for the journal of its table
abbrev pub IsWhole : Published → Type 0
IsWhole x = x.front.journal ≡ x.table.journal

-- the second copy is of the same history and shape as the first, and its journal begins with that of the first
pub record Follows (x y : Published) : Type 0 where
  pub book : y.front.book ≡ x.front.book
  pub shape : shape_of y.table ≡ shape_of x.table
  pub later : IsPrefix x.table.journal y.table.journal

-- what the copy has to do with the copy that was seen last, where one was
abbrev pub IsLaterThan : Option Published → Published → Type 0
IsLaterThan None y = Unit {0}
IsLaterThan (Some x) y = Follows x y

-- the rule: the published copy is whole, and whatever was seen is a beginning of it
pub record IsKept (x : Published) (views : List (Option Published)) : Type 0 where
  pub whole : IsWhole x
  pub begun : (seat : ℕ) (v : Option Published) → get_elem? views seat ≡ some v → IsLaterThan v x

-- a step that looks at a copy, or publishes one: the copy is whole and goes on from what was seen, and is
-- what was seen last from now on
abbrev pub Meets : Option Published → Published → Published → Option Published → Type 0
Meets v x y w = IsWhole y × IsLaterThan v y × (w ≡ Some y)

-- what a party has seen last, where it is there
abbrev pub seen_by : {X : Type 0} → (X → Option Published) → Option X → Option Published
seen_by sees None = None
seen_by sees (Some x) = sees x

-- the shape of the copy that was seen last, if any was
abbrev pub shape_at : Option Published → Shape
shape_at None = no_shape
shape_at (Some x) = shape_of x.table

-- the copy that was seen last goes on from the front
abbrev pub IsAt : Option Published → FrontValue → Type 0
IsAt None f = ⊥
IsAt (Some x) f = (x.front.book ≡ f.book) × IsPrefix f.journal x.table.journal

-- a copy that goes on from what was seen before is what was seen last now, and the front stands for it
pub record IsMet (v w : Option Published) (f : FrontValue) : Type 0 where
  pub copy : Published
  pub seen : w ≡ Some copy
  pub whole : IsWhole copy
  pub later : IsLaterThan v copy
  pub front : f ≡ copy.front
  pub legal : IsLegal copy.table

-- what is seen last now is what was seen last before, or a copy that goes on from it
abbrev pub IsLeft : Option Published → Option Published → Type 0
IsLeft v None = v ≡ None
IsLeft v (Some y) = IsLaterThan v y

-- a change goes on from the copy: its front has its entry more
abbrev pub GoesOn : Published → ChangeValue → Type 0
GoesOn x c = c.front ≡ record { book = x.front.book; journal = x.front.journal ++ c.entry ∷ [] }

-- one change is pending, and goes on from the copy
abbrev pub IsPending : Published → List ChangeValue → Type 0
IsPending x pending = (c : ChangeValue) × (pending ≡ c ∷ []) × GoesOn x c

-- the second copy is the first with the one change that is pending
abbrev pub Applies : Published → List ChangeValue → Published → Type 0
Applies x pending y = (c : ChangeValue) → pending ≡ c ∷ []
    → y ≡ record { table = with_entry x.table c.entry; front = c.front }
