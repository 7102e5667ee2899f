-- How the search ends.
use Rattle.std.specs.Prelude.{◌≡◌, ℕ, ◌+◌, ◌*◌, ◌<◌, ◌≤◌, length, []}
use Rattle.clause_defs.specs.Literals.{Literal}
use Rattle.clause_defs.specs.Clauses.{Lits, Has}
use Rattle.log_defs.specs.Logs.{LogValue, Words, HasDerived}
use Rattle.log_defs.specs.Deriving.{IsNew}
use Rattle.trail_defs.specs.Assignments.{IsSatisfied}
use Rattle.trail_defs.specs.Trails.{Assigned}
use Rattle.search_defs.specs.Solving.{Solving}
use Rattle.search_defs.specs.declared.end.CdclEnd.{CdclEnd}
use Rattle.search_defs.specs.declared.end.CdclEnd.TheVariants.{Empty, Point, Spent}

-- each variable has a value
abbrev pub IsTotal : Assigned → Type 0
IsTotal t = (v : ℕ) → 1 ≤ v → v ≤ t.variables → (l : Literal) × Has t.lits l × (l.variable ≡ v)

-- each variable has a value, and each clause of the formula a true literal
pub record IsPoint (log : LogValue) (s : Solving) : Type 0 where
  pub over : s.trail.variables ≡ log.originals.variables
  pub total : IsTotal s.trail
  pub satisfied : (c : Lits) → Has log.originals.clauses c → IsSatisfied s.trail.lits c
  pub not_empty : IsNew log []

-- the empty clause was derived last
pub record IsRefuted (log : LogValue) (index : ℕ) : Type 0 where
  pub derived : HasDerived log [] index
  pub last : index ≡ length log.originals.clauses + length log.derived

-- the next clause is over the limit, and the empty one isn't derived
pub record IsSpent (log : LogValue) (limit used need : ℕ) : Type 0 where
  pub used_is : used ≡ Words log.derived
  pub need_low : 4 ≤ need
  pub need_high : need ≤ 2 * log.originals.variables + 4
  pub over : limit < used + need
  pub not_empty : IsNew log []

abbrev pub SolveEnds : LogValue → Solving → CdclEnd → Type 0
SolveEnds log s (Empty index) = IsRefuted log index
SolveEnds log s Point = IsPoint log s
SolveEnds log s (Spent used need) = IsSpent log s.limit used need
