-- What the visit of one watch leaves.
use Rattle.std.specs.Prelude.{◌≡◌, ℕ, ◌<◌, List, length, Option, Some}
use Rattle.clause_defs.specs.Literals.{Literal}
use Rattle.clause_defs.specs.Clauses.{Lits, Has}
use Rattle.link_lists.specs.Linked.{list_at}
use Rattle.trail_defs.specs.Assignments.{IsFree, IsConflict}
use Rattle.trail_defs.specs.Trails.{clause_at, IsReason}
use Rattle.sat_trail.specs.Watching.{AreWatches, AreVisited, AreAnswered}
use Rattle.sat_trail.specs.Stages.{KeepsStages}
use Rattle.sat_trail.specs.declared.visit.Step.{Step}
use Rattle.sat_trail.specs.declared.visit.Step.TheVariants.{Answered, Forces, Conflict}

-- the live clause of this number is in conflict
abbrev pub IsInConflict : List (Option Lits) → Lits → ℕ → Type 0
IsInConflict clauses t k = (c : Lits) × (clause_at clauses k ≡ Some c) × IsConflict t c

-- What a step leaves to be done, where the watches and lists are these: nothing, a literal that the clause of a
-- number implies and that answers its watch, or nothing more, since the clause of a number is in conflict.
abbrev pub IsLeft : List (Option Lits) → Lits → Literal → Lits → List (List ℕ) → Lits → List (List ℕ) → Step → Type 0
IsLeft clauses t x watch lists later pushed Answered = AreAnswered watch lists t x → AreAnswered later pushed t x
IsLeft clauses t x watch lists later pushed (Forces k l) =
    IsReason clauses t k l × IsFree t l
    × ((longer : Lits) → ((m : Literal) → Has t m → Has longer m) → Has longer l → AreAnswered watch lists t x → AreAnswered later pushed longer x)
IsLeft clauses t x watch lists later pushed (Conflict k) = IsInConflict clauses t k

pub record IsVisit (clauses : List (Option Lits)) (t : Lits) (x : Literal) (watch : Lits) (lists : List (List ℕ)) (later : Lits)
    (pushed : List (List ℕ)) (step : Step) : Type 0 where
  pub loose : list_at pushed 1 ≡ list_at lists 1
  pub watches : AreWatches clauses (list_at lists 1) later
  pub visited : AreVisited clauses (list_at lists 1) later pushed x
  pub stages : KeepsStages clauses (list_at lists 1) watch later t
  pub fewer : length (list_at pushed 0) < length (list_at lists 0)
  pub leaves : IsLeft clauses t x watch lists later pushed step
