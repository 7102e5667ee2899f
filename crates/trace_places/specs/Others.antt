-- What a map has, and marks that say which indices it may have.
use Rattle.std.specs.Prelude.{◌≡◌, ℕ, ◌*◌, ◌/◌, ◌%◌, ◌^◌, ◌<◌, List, get_or, Option, Some}
use Rattle.std.specs.Ordering.{nat_cmp}
use Rattle.std.specs.Map.{lookup}
use Rattle.std.specs.BTreeMap.{is_at}
use Rattle.trace_places.specs.declared.groups.TheConstants.{MULTIPLIER}

-- the place of an index in a map that has these entries
abbrev pub place_in : List (ℕ × ℕ) → ℕ → Option ℕ
place_in entries x = lookup (is_at (nat_cmp x)) entries

-- where the mark of this index is
abbrev pub mark_of : ℕ → ℕ
mark_of x = (x * MULTIPLIER) % 2 ^ 64 / 2 ^ 46

-- what the map has is marked
abbrev pub AreMarked : List ℕ → (ℕ → Option ℕ) → Type 0
AreMarked marks others = (x p : ℕ) → others x ≡ Some p → 0 < get_or marks (mark_of x) 0
