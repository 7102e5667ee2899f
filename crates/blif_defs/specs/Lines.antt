-- The joined lines of a BLIF text: what counts of each line, and which line is joined to which.
use Rattle.std.specs.Prelude.{ℕ, ◌+◌, ◌-◌, Bool, ◌==◌, List, [], ◌∷◌, ◌++◌, length, take, if◌then◌else◌}
use Rattle.std.specs.List.{slice_split, before_first}
use Rattle.blif_defs.specs.Words.{is_blank, ends_with}

-- a list without its last element
abbrev pub without_last : {X : Type 0} → List X → List X
without_last xs = take (length xs - 1) xs

-- a line without the carriage return at its end
abbrev pub without_return : List ℕ → List ℕ
without_return line = if ends_with 13 line then without_last line else line

-- a line up to its first `#`
abbrev pub without_comment : List ℕ → List ℕ
without_comment line = before_first (λ b. b == 35) line

-- a byte in front of a line without blanks at its end; a blank goes where nothing follows
abbrev pub onto_trimmed : ℕ → List ℕ → List ℕ
onto_trimmed b [] = if is_blank b then [] else b ∷ []
onto_trimmed b (c ∷ cs) = b ∷ c ∷ cs

-- a line without the blanks at its end
abbrev pub trimmed : List ℕ → List ℕ
trimmed [] = []
trimmed (b ∷ bs) = onto_trimmed b (trimmed bs)

-- what counts of a line, a `\` at its end included
unfoldable pub stripped : List ℕ → List ℕ
stripped line = trimmed (without_comment (without_return line))

-- the line is joined to the next one
abbrev pub joins : List ℕ → Bool
joins line = ends_with 92 (stripped line)

-- what counts of a line
abbrev pub content : List ℕ → List ℕ
content line = if joins line then without_last (stripped line) else stripped line

-- a joined line: the number of its first line, and its bytes
pub record Line : Type 0 where
  pub at : ℕ
  pub bytes : List ℕ

-- the line with this number and content, joined to the first of the lines after it by a space; at the
-- end of the text it is joined to nothing
abbrev pub joined_to : ℕ → List ℕ → List Line → List Line
joined_to at bytes [] = record { at = at; bytes = bytes } ∷ []
joined_to at bytes (next ∷ more) = record { at = at; bytes = bytes ++ 32 ∷ next.bytes } ∷ more

-- the joined lines of lines of which the first one has this number
abbrev pub joined : ℕ → List (List ℕ) → List Line
joined at [] = []
joined at (line ∷ more) =
    if joins line
    then joined_to at (content line) (joined (at + 1) more)
    else record { at = at; bytes = content line } ∷ joined (at + 1) more

-- the joined lines of a text, whose lines are the parts between its line feeds
abbrev pub lines_of : List ℕ → List Line
lines_of text = joined 1 (slice_split (λ b. b == 10) text)
