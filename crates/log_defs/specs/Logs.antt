-- A log: clauses that were derived one after another, by the chain rule, from the clauses of a formula and
-- from each other. (The log that this project's producers write.)
use Rattle.std.specs.Prelude.{◌≡◌, ℕ, ◌+◌, ◌-◌, ◌<◌, ◌≤◌, List, [], ◌++◌, length, map, get_or, sum_by}
use Rattle.clause_defs.specs.declared.verdict.TheConstants.{MAX_INDEX}
use Rattle.clause_defs.specs.Clauses.{Lits, Has, SameSet, IsClause}
use Rattle.clause_defs.specs.Formulas.{Formula}
use Rattle.clause_defs.specs.Resolution.{Resolves}

-- a derived clause, and the indices of its antecedents in the order of the chain
pub record Derived : Type 0 where
  pub lits : Lits
  pub antecedents : List ℕ

-- the literals of a derived clause
abbrev pub lits_of : Derived → Lits
lits_of d = d.lits

-- derived clause k, counted from 0
abbrev pub derived_at : List Derived → ℕ → Derived
derived_at ds k = get_or ds k (record { lits = []; antecedents = [] })

-- The clauses of the list have their numbers as indices, from 1 on, and the derived ones the next numbers.
abbrev pub all_clauses : List Lits → List Derived → List Lits
all_clauses f ds = f ++ map lits_of ds

-- the clause with this index
abbrev pub clause_with : List Lits → List Derived → ℕ → Lits
clause_with f ds index = get_or (all_clauses f ds) (index - 1) []

-- each derived clause follows, by the chain rule, from clauses of the list and earlier derived ones, and no
-- two derived clauses are the same
pub record LogOk (f : List Lits) (ds : List Derived) : Type 0 where
  pub earlier : (k index : ℕ) → Has (derived_at ds k).antecedents index → (1 ≤ index) × (index ≤ length f + k)
  pub resolves : (k : ℕ) → k < length ds → Resolves (map (clause_with f ds) (derived_at ds k).antecedents) (derived_at ds k).lits
  pub distinct : (j k : ℕ) → j < k → k < length ds → SameSet (derived_at ds j).lits (derived_at ds k).lits → ⊥

-- the words of a derived clause: its index, its literals, a 0, its antecedents and a 0
abbrev pub words_of : Derived → ℕ
words_of d = 1 + length d.lits + 1 + length d.antecedents + 1

-- the words of all derived clauses
abbrev pub Words : List Derived → ℕ
Words ds = sum_by words_of ds

-- a formula, the clauses that were derived from it, and how many words they may have
pub record LogValue : Type 0 where
  pub originals : Formula
  pub derived : List Derived
  pub budget : ℕ

-- the clause of the log with this index
abbrev pub clause_of_log : LogValue → ℕ → Lits
clause_of_log l index = clause_with l.originals.clauses l.derived index

-- some clause of the log has this index
pub record IsIndexOf (l : LogValue) (index : ℕ) : Type 0 where
  pub low : 1 ≤ index
  pub high : index ≤ length l.originals.clauses + length l.derived

-- the clause c is a derived clause of the log, with this index
pub record HasDerived (l : LogValue) (c : Lits) (index : ℕ) : Type 0 where
  pub behind_originals : length l.originals.clauses < index
  pub within : index ≤ length l.originals.clauses + length l.derived
  pub same : SameSet (clause_of_log l index) c

-- what every log keeps
pub record IsLog (l : LogValue) : Type 0 where
  pub ok : LogOk l.originals.clauses l.derived
  pub clauses : (d : Derived) → Has l.derived d → IsClause d.lits
  pub within_budget : Words l.derived ≤ l.budget
  pub few : length l.originals.clauses + l.budget ≤ MAX_INDEX

-- the later log has what the earlier one had, and maybe more derived clauses
pub record Extends (before after : LogValue) : Type 0 where
  pub originals : after.originals ≡ before.originals
  pub budget : after.budget ≡ before.budget
  pub more : List Derived
  pub derived : after.derived ≡ before.derived ++ more
