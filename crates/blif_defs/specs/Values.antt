-- The value of a BLIF text: a design. A name is its list of bytes.
use Rattle.std.specs.Prelude.{◌≡◌, ℕ, ◌+◌, ◌≤◌, ◌⊎◌, Bool, true, List, [], ◌++◌, length, map, sum_by}
use Rattle.std.specs.List.{AllByRecursion, IsDistinct}
use Rattle.std.specs.Str.{bytes_eq}
use Rattle.blif_defs.specs.declared.mark.Mark.{Mark}
use Rattle.blif_defs.specs.declared.mark.TheConstants.{MAX_BYTES, MAX_PORTS, MAX_SIGNALS}
use Rattle.blif_defs.specs.Words.{IsWord}

-- a cover: its inputs, its output, the value of the output where a row matches, and the rows with one
-- mark for each input
pub record CoverValue : Type 0 where
  pub ins : List (List ℕ)
  pub out : List ℕ
  pub on : Bool
  pub rows : List (List Mark)

-- a design; the name of the model is empty where it has none
pub record BlifValue : Type 0 where
  pub model : List ℕ
  pub inputs : List (List ℕ)
  pub outputs : List (List ℕ)
  pub covers : List CoverValue

-- the signals: the inputs, and then the outputs of the covers
abbrev pub signals_of : List (List ℕ) → List CoverValue → List (List ℕ)
signals_of inputs covers = inputs ++ map (λ c. c.out) covers

-- the marks of rows, and two more for each row
abbrev pub rows_size : List (List Mark) → ℕ
rows_size rows = sum_by (λ row. length row + 2) rows

-- what holds of each cover of a text
pub record IsCover (c : CoverValue) : Type 0 where
  pub within : length c.ins ≤ MAX_PORTS
  pub ins : AllByRecursion IsWord c.ins
  pub out : IsWord c.out
  pub rows : AllByRecursion (λ row. length row ≡ length c.ins) c.rows
  pub on : c.rows ≡ [] → c.on ≡ true

-- what holds of the value of each text; a row takes of the text a byte for each of its marks and at least
-- two more, so all rows together are within the limit of bytes
pub record IsBlif (m : BlifValue) : Type 0 where
  pub model : (m.model ≡ []) ⊎ IsWord m.model
  pub inputs : AllByRecursion IsWord m.inputs
  pub inputs_within : length m.inputs ≤ MAX_PORTS
  pub outputs : AllByRecursion IsWord m.outputs
  pub outputs_some : 1 ≤ length m.outputs
  pub outputs_within : length m.outputs ≤ MAX_PORTS
  pub outputs_differ : IsDistinct bytes_eq m.outputs
  pub covers : AllByRecursion IsCover m.covers
  pub signals_within : length m.inputs + length m.covers ≤ MAX_SIGNALS
  pub signals_differ : IsDistinct bytes_eq (signals_of m.inputs m.covers)
  pub rows_within : sum_by (λ (c : CoverValue). rows_size c.rows) m.covers ≤ MAX_BYTES
