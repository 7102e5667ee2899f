-- Bits as numbers.
use Rattle.std.specs.Prelude.{◌≡◌, ℕ, ◌≤◌, List, length}
use Rattle.clause_defs.specs.Clauses.{Has}

-- each element is 0 or 1
abbrev pub AreBits : List ℕ → Type 0
AreBits bits = (b : ℕ) → Has bits b → b ≤ 1

-- n bits
pub record IsBits (n : ℕ) (x : List ℕ) : Type 0 where
  pub count : length x ≡ n
  pub bits : AreBits x
