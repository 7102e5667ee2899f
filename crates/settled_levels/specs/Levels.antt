-- Levels that were left with every live clause settled.
use Rattle.std.specs.Prelude.{◌≡◌, ◌≢◌, ℕ, ◌<◌, ◌≤◌, ◌⊎◌, length, take, Some}
use Rattle.clause_defs.specs.Literals.{Literal}
use Rattle.clause_defs.specs.Clauses.{Lits, Has}
use Rattle.trail_defs.specs.Assignments.{IsAt, IsConflict, IsSettled}
use Rattle.trail_defs.specs.Trails.{Assigned, clause_at, level_of}

-- the first n literals of the trail are those of the levels up to b
pub record IsFront (t : Assigned) (b n : ℕ) : Type 0 where
  pub within : n ≤ length t.lits
  pub left : (l : Literal) → Has (take n t.lits) l → level_of t l ≤ b
  pub gone : (i : ℕ) (l : Literal) → IsAt t.lits i l → n ≤ i → b < level_of t l

-- the clause is settled where each level below the present one ended
abbrev pub IsOpenBelow : Assigned → Lits → Type 0
IsOpenBelow t c = (b n : ℕ) → b < t.present → IsFront t b n → IsSettled (take n t.lits) c

-- The fact that the search keeps: so is every live clause.
abbrev pub IsSettledBelow : Assigned → Type 0
IsSettledBelow t = (k : ℕ) (c : Lits) → clause_at t.clauses k ≡ Some c → IsOpenBelow t c

-- The clause is false, its literal u is of the present level, and its others are of levels up to b, below that; one
-- of them is of level b, or b is 0.
pub record IsTaught (t : Assigned) (c : Lits) (u : Literal) (b : ℕ) : Type 0 where
  pub all_false : IsConflict t.lits c
  pub there : Has c u
  pub own : level_of t u ≡ t.present
  pub lower : b < t.present
  pub most : (x : Literal) → Has c x → x ≢ u → level_of t x ≤ b
  pub reached : (b ≡ 0) ⊎ ((x : Literal) × Has c x × (x ≢ u) × (level_of t x ≡ b))
