-- How deriving one more clause of a log ends.
use Rattle.std.specs.Prelude.{◌≡◌, ℕ, ◌+◌, ◌<◌, ◌≤◌, List, [], ◌∷◌, ◌++◌, length, Result, Ok, Err}
use Rattle.clause_defs.specs.Clauses.{Lits}
use Rattle.log_defs.specs.Logs.{Derived, words_of, Words, LogValue, HasDerived}
use Rattle.log_defs.specs.declared.log_end.LogEnd.{LogEnd}
use Rattle.log_defs.specs.declared.log_end.LogEnd.TheVariants.{Kept, Spent}

-- the log with one more derived clause
abbrev pub with_derived : LogValue → Derived → LogValue
with_derived l d = record { originals = l.originals; derived = l.derived ++ d ∷ []; budget = l.budget }

-- no derived clause of the log is the set c
abbrev pub IsNew : LogValue → Lits → Type 0
IsNew l c = (index : ℕ) → HasDerived l c index → ⊥

-- the clause is new and fits the budget, and the log takes it with the next index
pub record IsTaken (before : LogValue) (d : Derived) (index : ℕ) (after : LogValue) : Type 0 where
  pub is_new : IsNew before d.lits
  pub fits : Words before.derived + words_of d ≤ before.budget
  pub next : index ≡ length before.originals.clauses + length before.derived + 1
  pub appended : after ≡ with_derived before d

-- the clause is new, and is over the budget
pub record IsOver (before : LogValue) (d : Derived) (used need : ℕ) : Type 0 where
  pub is_new : IsNew before d.lits
  pub used_is : used ≡ Words before.derived
  pub need_is : need ≡ words_of d
  pub over : before.budget < used + need

-- deriving the clause d ends so
abbrev pub DeriveEnds : LogValue → Derived → Result ℕ LogEnd → LogValue → Type 0
DeriveEnds before d (Ok index) after = IsTaken before d index after
DeriveEnds before d (Err (Kept index)) after = HasDerived before d.lits index × (after ≡ before)
DeriveEnds before d (Err (Spent used need)) after = IsOver before d used need × (after ≡ before)
