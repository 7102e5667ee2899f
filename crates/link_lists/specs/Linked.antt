-- Lists of the numbers below a size.
use Rattle.std.specs.Prelude.{ℕ, List, [], get_or}

-- the size, and the lists
pub record Linked : Type 0 where
  pub size : ℕ
  pub lists : List (List ℕ)

-- list k; empty past the last one
abbrev pub list_at : List (List ℕ) → ℕ → List ℕ
list_at lists k = get_or lists k []
