-- The rows of a cover.
use Rattle.std.specs.Prelude.{ℕ, Bool, not, ◌&&◌, ◌||◌, ◌==◌, List, [], ◌∷◌, ◌++◌, length, map, Option, Some, None, Result, Ok, Err, if◌then◌else◌}
use Rattle.std.specs.List.{list_all}
use Rattle.std.specs.Str.{bytes_eq}
use Rattle.blif_defs.specs.declared.mark.Mark.{Mark}
use Rattle.blif_defs.specs.declared.mark.Mark.TheVariants.{Zero, One, Any}
use Rattle.blif_defs.specs.declared.error.BlifError.{BlifError}
use Rattle.blif_defs.specs.declared.error.BlifError.TheVariants.{Syntax, Mixed}
use Rattle.blif_defs.specs.Values.{CoverValue}

-- `0`, `1` or `-`
abbrev pub is_mark : ℕ → Bool
is_mark b = (b == 48) || (b == 49) || (b == 45)

-- the mark that a byte spells
abbrev pub mark_of : ℕ → Mark
mark_of b = if b == 48 then Zero else (if b == 49 then One else Any)

-- the word `0` or `1`
abbrev pub is_bit : List ℕ → Bool
is_bit word = bytes_eq word (48 ∷ []) || bytes_eq word (49 ∷ [])

-- the bit that a word spells
abbrev pub bit_of : List ℕ → Bool
bit_of word = bytes_eq word (49 ∷ [])

-- the marks and the output of a row of a cover with this number of inputs: a cover without inputs has
-- rows of one word
abbrev pub row_parts : ℕ → List (List ℕ) → Option (List ℕ × List ℕ)
row_parts inputs [] = None
row_parts inputs (bit ∷ []) = if inputs == 0 then Some ([], bit) else None
row_parts inputs (marks ∷ bit ∷ []) = if inputs == 0 then None else Some (marks, bit)
row_parts inputs (a ∷ b ∷ c ∷ more) = None

-- one mark for each input, and a bit
abbrev pub is_row : CoverValue → List ℕ → List ℕ → Bool
is_row c marks bit = (length marks == length c.ins) && list_all is_mark marks && is_bit bit

-- the row's output is that of the rows before it
abbrev pub agrees : CoverValue → Bool → Bool
agrees c on = (length c.rows == 0) || (if on then c.on else not c.on)

-- the cover with one row more
abbrev pub with_row : CoverValue → List ℕ → Bool → CoverValue
with_row c marks on = record c { on = on; rows = c.rows ++ map mark_of marks ∷ [] }

-- the cover with this row, where it is one and has the output of the rows before it
abbrev pub row_onto : ℕ → CoverValue → Option (List ℕ × List ℕ) → Result CoverValue BlifError
row_onto at c None = Err (Syntax at)
row_onto at c (Some row) =
    if is_row c row.0 row.1
    then (if agrees c (bit_of row.1) then Ok (with_row c row.0 (bit_of row.1)) else Err (Mixed at))
    else Err (Syntax at)
