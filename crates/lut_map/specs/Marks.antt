-- Marks on nodes.
use Rattle.std.specs.Prelude.{◌≡◌, ℕ, Bool, true, false, List, slice_index_or}

-- whether node v is marked; past the last mark none is
abbrev pub is_marked : List Bool → ℕ → Bool
is_marked marks v = slice_index_or marks v false

-- the same as a fact
abbrev pub IsMarked : List Bool → ℕ → Type 0
IsMarked marks v = is_marked marks v ≡ true
