-- The text of a design.
use Rattle.std.specs.Prelude.{ℕ, Bool, true, false, List, [], ◌∷◌, ◌++◌, map, codes}
use Rattle.std.specs.List.{flat_map}
use Rattle.blif_defs.specs.declared.mark.Mark.{Mark}
use Rattle.blif_defs.specs.declared.mark.Mark.TheVariants.{Zero, One, Any}
use Rattle.blif_defs.specs.Values.{CoverValue, BlifValue}

-- the byte of a mark
abbrev pub mark_byte : Mark → ℕ
mark_byte Zero = 48
mark_byte One = 49
mark_byte Any = 45

-- the word of a bit
abbrev pub bit_word : Bool → List ℕ
bit_word false = 48 ∷ []
bit_word true = 49 ∷ []

-- the marks are a word where there are any
abbrev pub marks_words : List Mark → List (List ℕ)
marks_words [] = []
marks_words (m ∷ ms) = map mark_byte (m ∷ ms) ∷ []

-- the words of a row
abbrev pub row_words : Bool → List Mark → List (List ℕ)
row_words on row = marks_words row ++ bit_word on ∷ []

-- the line of the names, and a line for each row
abbrev pub cover_lines : CoverValue → List (List (List ℕ))
cover_lines c = (codes ".names" ∷ (c.ins ++ c.out ∷ [])) ∷ map (row_words c.on) c.rows

-- a model without a name and inputs that there are none of have no line
abbrev pub model_lines : List ℕ → List (List (List ℕ))
model_lines [] = []
model_lines (b ∷ bs) = (codes ".model" ∷ (b ∷ bs) ∷ []) ∷ []

-- the line of the inputs, where there are any
abbrev pub input_lines : List (List ℕ) → List (List (List ℕ))
input_lines [] = []
input_lines (n ∷ ns) = (codes ".inputs" ∷ n ∷ ns) ∷ []

-- the lines of a design, each as its words
abbrev pub blif_lines : BlifValue → List (List (List ℕ))
blif_lines m =
    model_lines m.model ++ (input_lines m.inputs ++ (codes ".outputs" ∷ m.outputs)
    ∷ (flat_map cover_lines m.covers ++ (codes ".end" ∷ []) ∷ []))

-- words with a space in front of each
abbrev pub spaced : List (List ℕ) → List ℕ
spaced words = flat_map (λ w. 32 ∷ w) words

-- a line: its words with one space between them
abbrev pub line_bytes : List (List ℕ) → List ℕ
line_bytes [] = []
line_bytes (w ∷ ws) = w ++ spaced ws

-- a line and its line feed
abbrev pub line_text : List (List ℕ) → List ℕ
line_text words = line_bytes words ++ 10 ∷ []

-- the text of a design
abbrev pub blif_text : BlifValue → List ℕ
blif_text m = flat_map line_text (blif_lines m)
