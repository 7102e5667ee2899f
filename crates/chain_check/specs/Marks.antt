-- The running clause of a chain, told by a number per literal: the number of the literal with code k
-- stands at place k of a list.
use Rattle.std.specs.Prelude.{◌≡◌, ℕ, ◌+◌, ◌*◌, ◌≤◌, ◌==◌, ◌&&◌, Bool, true, false, nat_le, nat_lt, List, [], ◌∷◌, length, slice_index}
use Rattle.clause_defs.specs.Literals.{Literal}
use Rattle.clause_defs.specs.Clauses.{Lits}
use Rattle.pch_base.specs.Lits.{literal_of}

-- what the marks hold: the running clause, and what the step in work adds to it
pub record Marked : Type 0 where
  pub variables : ℕ
  pub running : Lits
  pub fresh : Lits
  -- the steps that the numbers are enough for
  pub left : ℕ

-- the literals with one more in front, if it is taken
abbrev pub with_literal : Bool → Literal → Lits → Lits
with_literal true l ls = l ∷ ls
with_literal false l ls = ls

-- the literals whose number passes the test, where the first number is that of the literal with this code
abbrev pub literals_where : (ℕ → Bool) → ℕ → List ℕ → Lits
literals_where test at [] = []
literals_where test at (s ∷ ss) = with_literal (test s) (literal_of at) (literals_where test (at + 1) ss)

-- a literal of the running clause has a number from the chain's first number to before the step's
abbrev pub is_running : ℕ → ℕ → ℕ → Bool
is_running first current s = nat_le first s && nat_lt s current

-- a literal that the step in work adds has the step's number
abbrev pub is_fresh : ℕ → ℕ → Bool
is_fresh current s = s == current

-- what the numbers keep
pub record IsKept (variables : ℕ) (numbers : List ℕ) (first current count : ℕ) : Type 0 where
  pub size : length numbers ≡ 2 * variables + 2
  pub started : 1 ≤ first
  pub in_order : first ≤ current
  pub none_later : (k : ℕ) → slice_index numbers k ≤ current
  pub counted : count ≡ length (literals_where (is_running first current) 0 numbers)
