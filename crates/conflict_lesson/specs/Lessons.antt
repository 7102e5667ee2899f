-- What a conflict taught, over the variables up to a greatest one, and how deriving it ends.
use Rattle.std.specs.Prelude.{◌≡◌, ℕ, ◌≤◌, List, Result, Ok, Err}
use Rattle.clause_defs.specs.Clauses.{Lits}
use Rattle.log_defs.specs.Logs.{Derived, LogValue, Words, HasDerived}
use Rattle.log_defs.specs.Deriving.{IsNew, IsTaken}
use Rattle.log_defs.specs.declared.log_end.LogEnd.{LogEnd}
use Rattle.log_defs.specs.declared.log_end.LogEnd.TheVariants.{Kept, Spent}
use Rattle.search_defs.specs.Ends.{IsSpent}

-- a clause, and the indices of the clauses that it follows from
pub record Taught : Type 0 where
  pub variables : ℕ
  pub lits : Lits
  pub antecedents : List ℕ

-- the lesson was derived with this index; or the log has it already; or it is new, and the next clause is over the limit
abbrev pub LessonEnds : LogValue → ℕ → Derived → Result ℕ LogEnd → LogValue → Type 0
LessonEnds before limit d (Ok index) after = IsTaken before d index after
LessonEnds before limit d (Err (Kept index)) after = HasDerived before d.lits index × (after ≡ before)
LessonEnds before limit d (Err (Spent used need)) after = IsNew before d.lits × IsSpent before limit used need × (after ≡ before)
