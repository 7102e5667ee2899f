-- What the lines before a line have given.
use Rattle.std.specs.Prelude.{ℕ, ◌+◌, Bool, false, List, [], ◌++◌, length, Option, None}
use Rattle.std.specs.Option.{option_to_list}
use Rattle.std.specs.List.{list_any}
use Rattle.std.specs.Str.{bytes_eq}
use Rattle.blif_defs.specs.Values.{CoverValue, BlifValue, signals_of}

-- The name is one of these.
abbrev pub is_among : List ℕ → List (List ℕ) → Bool
is_among name names = list_any (bytes_eq name) names

-- a design as far as it was read: `covers` are those that take no more rows, and `current` is the open
-- cover; a line with words was there, and `.end` was there
pub record Draft : Type 0 where
  pub model : List ℕ
  pub inputs : List (List ℕ)
  pub outputs : List (List ℕ)
  pub covers : List CoverValue
  pub current : Option CoverValue
  pub begun : Bool
  pub ended : Bool

-- before the first line
abbrev pub start : Draft
start = record { model = []; inputs = []; outputs = []; covers = []; current = None; begun = false; ended = false }

-- all covers, the open one last
abbrev pub all_covers : Draft → List CoverValue
all_covers d = d.covers ++ option_to_list d.current

-- the inputs, and the outputs of the covers
abbrev pub signals : Draft → List (List ℕ)
signals d = signals_of d.inputs (all_covers d)

-- how many inputs and covers there are
abbrev pub signal_count : Draft → ℕ
signal_count d = length d.inputs + length (all_covers d)

-- the open cover takes no more rows
abbrev pub closed : Draft → Draft
closed d = record d { covers = all_covers d; current = None }

-- the design that was read
abbrev pub value_of : Draft → BlifValue
value_of d = record { model = d.model; inputs = d.inputs; outputs = d.outputs; covers = all_covers d }
