-- What the lines of a BLIF text say, each by itself.
use Rattle.std.specs.Prelude.{◌≡◌, ℕ, List, [], ◌∷◌}
use Rattle.std.specs.List.{flat_map}
use Rattle.blif_defs.specs.declared.kind.LineKind.{LineKind}
use Rattle.blif_defs.specs.declared.kind.LineKind.TheVariants.{Model, Inputs, Outputs, Names, End, Other, Row}
use Rattle.blif_defs.specs.Values.{BlifValue}
use Rattle.blif_defs.specs.Grammar.{statements, kind_of}
use Rattle.blif_defs.specs.Printing.{cover_lines}

-- the names of a line of inputs
abbrev pub inputs_of_kind : LineKind → List (List ℕ) → List (List ℕ)
inputs_of_kind Model names = []
inputs_of_kind Inputs names = names
inputs_of_kind Outputs names = []
inputs_of_kind Names names = []
inputs_of_kind End names = []
inputs_of_kind Other names = []
inputs_of_kind Row names = []

-- the names of a line of outputs
abbrev pub outputs_of_kind : LineKind → List (List ℕ) → List (List ℕ)
outputs_of_kind Model names = []
outputs_of_kind Inputs names = []
outputs_of_kind Outputs names = names
outputs_of_kind Names names = []
outputs_of_kind End names = []
outputs_of_kind Other names = []
outputs_of_kind Row names = []

-- a line that opens a cover, or a row
abbrev pub cover_line_of_kind : LineKind → List (List ℕ) → List (List (List ℕ))
cover_line_of_kind Model line = []
cover_line_of_kind Inputs line = []
cover_line_of_kind Outputs line = []
cover_line_of_kind Names line = line ∷ []
cover_line_of_kind End line = []
cover_line_of_kind Other line = []
cover_line_of_kind Row line = line ∷ []

-- the inputs that a line names
abbrev pub inputs_on : List (List ℕ) → List (List ℕ)
inputs_on [] = []
inputs_on (first ∷ names) = inputs_of_kind (kind_of first) names

-- the outputs that a line names
abbrev pub outputs_on : List (List ℕ) → List (List ℕ)
outputs_on [] = []
outputs_on (first ∷ names) = outputs_of_kind (kind_of first) names

-- the line itself, where it opens a cover or is a row
abbrev pub cover_line_on : List (List ℕ) → List (List (List ℕ))
cover_line_on [] = []
cover_line_on (first ∷ names) = cover_line_of_kind (kind_of first) (first ∷ names)

-- the value has what the lines say: the names of all lines of inputs, those of all lines of outputs,
-- and the covers whose lines are the lines of names and rows
pub record IsSaid (text : List ℕ) (m : BlifValue) : Type 0 where
  pub inputs : m.inputs ≡ flat_map (λ s. inputs_on s.words) (statements text)
  pub outputs : m.outputs ≡ flat_map (λ s. outputs_on s.words) (statements text)
  pub covers : flat_map cover_lines m.covers ≡ flat_map (λ s. cover_line_on s.words) (statements text)
