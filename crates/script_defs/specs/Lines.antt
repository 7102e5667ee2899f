-- The lines of a text, and the words of each.
use Rattle.std.specs.Prelude.{ℕ, ◌+◌, ◌==◌, Bool, List, [], ◌∷◌, length, if◌then◌else◌}
use Rattle.std.specs.List.{list_all}
use Rattle.blif_defs.specs.Words.{is_sign, words}
use Rattle.blif_defs.specs.Lines.{without_return, without_comment}

-- a byte in front of the first of some lines; where there is none it is a line of its own
abbrev pub onto_line : ℕ → List (List ℕ) → List (List ℕ)
onto_line b [] = (b ∷ []) ∷ []
onto_line b (line ∷ later) = (b ∷ line) ∷ later

-- the lines of a text: a line ends at a line feed, or at the end of the text
abbrev pub lines : List ℕ → List (List ℕ)
lines [] = []
lines (b ∷ bs) = if b == 10 then [] ∷ lines bs else onto_line b (lines bs)

-- the words of a line, which has neither a comment nor a carriage return at its end then
abbrev pub line_words : List ℕ → List (List ℕ)
line_words line = words (without_comment (without_return line))

-- each byte is a sign of ASCII that isn't a blank
abbrev pub is_plain : List ℕ → Bool
is_plain word = list_all is_sign word

-- a line: its number, counted from 1, and its words
pub record Statement : Type 0 where
  pub at : ℕ
  pub words : List (List ℕ)

-- the statements of lines of which the first one has this number
abbrev pub statements_from : ℕ → List (List ℕ) → List Statement
statements_from at [] = []
statements_from at (line ∷ later) = record { at = at; words = line_words line } ∷ statements_from (at + 1) later

-- the statements of a text, one for each of its lines
abbrev pub statements : List ℕ → List Statement
statements text = statements_from 1 (lines text)

-- the number that a further line would have
abbrev pub line_behind : List ℕ → ℕ
line_behind text = length (lines text) + 1
