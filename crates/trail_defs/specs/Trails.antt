-- Trails: an assignment in its order, with levels and reasons, over clauses of which some are live. (MiniSat)
use Rattle.std.specs.Prelude.{◌≡◌, ◌≢◌, ℕ, zero, suc, ◌+◌, ◌<◌, ◌≤◌, ◌++◌, List, [], length, map, replicate, sum_by, get_or, take, Option, Some, None}
use Rattle.clause_defs.specs.Literals.{Literal}
use Rattle.clause_defs.specs.Clauses.{Lits, Has, IsClause, WithinVariables}
use Rattle.trail_defs.specs.Assignments.{IsAssignmentOf, IsAt, Implies}

-- Clauses have numbers from 1 on, and `clauses` has the clause of number k at place k - 1, if it is live; the
-- first ones are the originals, and `words` is how many literals live clauses may have together. Levels and
-- reasons are listed by variable; a reason is a number of a clause, or 0.
pub record Assigned : Type 0 where
  pub variables : ℕ
  pub originals : ℕ
  pub clauses : List (Option Lits)
  pub lits : Lits
  pub levels : List ℕ
  pub reasons : List ℕ
  pub present : ℕ
  pub words : ℕ

-- the clause with a number, if it is live
abbrev pub clause_at : List (Option Lits) → ℕ → Option Lits
clause_at clauses zero = None
clause_at clauses (suc k) = get_or clauses k None

-- the level of a literal that has a value
abbrev pub level_of : Assigned → Literal → ℕ
level_of t l = get_or t.levels l.variable 0

-- the number of the clause that implied the literal; 0 for one that was decided
abbrev pub reason_of : Assigned → Literal → ℕ
reason_of t l = get_or t.reasons l.variable 0

-- the live clause of this number implied l, where `before` has the literals that came earlier
abbrev pub IsReason : List (Option Lits) → Lits → ℕ → Literal → Type 0
IsReason clauses before k l = (c : Lits) × (clause_at clauses k ≡ Some c) × Implies before c l

-- what every trail keeps
pub record IsTrail (t : Assigned) : Type 0 where
  pub assignment : IsAssignmentOf t.variables t.lits
  pub clauses : (k : ℕ) (c : Lits) → clause_at t.clauses k ≡ Some c → IsClause c × WithinVariables t.variables c
  pub implied : (i : ℕ) (l : Literal) → IsAt t.lits i l → reason_of t l ≢ 0 → IsReason t.clauses (take i t.lits) (reason_of t l) l
  pub decided : (i : ℕ) (l m : Literal) → IsAt t.lits i l → reason_of t l ≡ 0 → Has (take i t.lits) m → level_of t m ≢ level_of t l
  pub no_decision : (l : Literal) → Has t.lits l → level_of t l ≡ 0 → reason_of t l ≢ 0
  pub rising : (i : ℕ) (l m : Literal) → IsAt t.lits i l → Has (take i t.lits) m → level_of t m ≤ level_of t l
  pub top : (l : Literal) → Has t.lits l → level_of t l ≤ t.present

-- No literal has a value; the clauses are these, and there is room for so many words and clauses more.
pub record IsOpened (variables : ℕ) (clauses : List Lits) (extra_words extra_blocks : ℕ) (t : Assigned) : Type 0 where
  pub over : t.variables ≡ variables
  pub many : t.originals ≡ length clauses
  pub held : t.clauses ≡ map Some clauses ++ replicate extra_blocks None
  pub room : t.words ≡ sum_by length clauses + extra_words
  pub none : t.lits ≡ []
  pub level : t.present ≡ 0

-- the trail's literals up to level n are left, in their order
pub record IsUpTo (n : ℕ) (before after : Assigned) : Type 0 where
  pub front : after.lits ≡ take (length after.lits) before.lits
  pub left : (l : Literal) → Has after.lits l → level_of before l ≤ n
  pub gone : (i : ℕ) (l : Literal) → IsAt before.lits i l → length after.lits ≤ i → n < level_of before l

-- The trail grew by literals of the present level, each of them implied; levels and reasons of the others stay.
pub record IsGrown (before after : Assigned) : Type 0 where
  pub more : Lits
  pub lits : after.lits ≡ before.lits ++ more
  pub levels : (l : Literal) → Has before.lits l → level_of after l ≡ level_of before l
  pub reasons : (l : Literal) → Has before.lits l → reason_of after l ≡ reason_of before l
  pub present : (l : Literal) → Has more l → level_of after l ≡ before.present
  pub implied : (l : Literal) → Has more l → reason_of after l ≢ 0

-- what the calls that give values leave alone
pub record HasSameClauses (before after : Assigned) : Type 0 where
  pub variables : after.variables ≡ before.variables
  pub originals : after.originals ≡ before.originals
  pub clauses : after.clauses ≡ before.clauses
  pub words : after.words ≡ before.words

-- what the calls that change clauses leave alone
pub record HasSameValues (before after : Assigned) : Type 0 where
  pub variables : after.variables ≡ before.variables
  pub originals : after.originals ≡ before.originals
  pub lits : after.lits ≡ before.lits
  pub levels : after.levels ≡ before.levels
  pub reasons : after.reasons ≡ before.reasons
  pub present : after.present ≡ before.present
  pub words : after.words ≡ before.words

-- no literal of the trail has the clause of this number as its reason
abbrev pub IsNoReason : Assigned → ℕ → Type 0
IsNoReason t k = (l : Literal) → Has t.lits l → reason_of t l ≢ k
