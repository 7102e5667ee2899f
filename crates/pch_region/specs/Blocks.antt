-- The live blocks of a region: a finite map from names to lists of literals.
use Rattle.std.specs.Prelude.{◌≡◌, ◌≢◌, ℕ, ◌-◌, ◌<◌, List, length, get_or, sum_by, Option, Some, None}
use Rattle.clause_defs.specs.Clauses.{Lits}

-- for each name the literals of its block, if it is live; the names of no live block, of which the last is given
-- next; and how many words fit
pub record Blocks : Type 0 where
  pub held : List (Option Lits)
  pub unused : List ℕ
  pub words : ℕ

-- the name that is given next
abbrev pub next_name : List ℕ → ℕ
next_name unused = get_or unused (length unused - 1) 0

-- all names, the least one last
pub record AreAllNames (blocks : ℕ) (unused : List ℕ) : Type 0 where
  pub many : length unused ≡ blocks
  pub falling : (k : ℕ) → k < blocks → get_or unused k 0 ≡ blocks - 1 - k

-- the block with a name, if it is live
abbrev pub held_at : List (Option Lits) → ℕ → Option Lits
held_at held n = get_or held n None

-- a block with this name is live
abbrev pub IsLive : List (Option Lits) → ℕ → Type 0
IsLive held n = held_at held n ≢ None

-- how many words a block has
abbrev pub size : Option Lits → ℕ
size None = 0
size (Some c) = length c

-- a block counts one, if it is live
abbrev pub one : Option Lits → ℕ
one None = 0
one (Some c) = 1

-- how many words the live blocks have together
abbrev pub words_of : List (Option Lits) → ℕ
words_of held = sum_by size held

-- how many blocks are live
abbrev pub blocks_of : List (Option Lits) → ℕ
blocks_of held = sum_by one held
