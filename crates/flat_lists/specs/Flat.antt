-- Lists of lists with room for more.
use Rattle.std.specs.Prelude.{ℕ, List, length, sum_by}

-- the lists, how many lists fit in all, and how many items fit in all
pub record Flat (T : Type 0) : Type 0 where
  pub lists : List (List T)
  pub list_room : ℕ
  pub item_room : ℕ

-- how many items the lists have together
abbrev pub total : {T : Type 0} → List (List T) → ℕ
total lists = sum_by length lists
