-- How the chain from a false clause to one of chosen variables ends.
use Rattle.std.specs.Prelude.{◌≡◌, ℕ, ◌+◌, ◌<◌, ◌≤◌, ◌⊎◌, length, take, Result, Ok, Err}
use Rattle.clause_defs.specs.declared.verdict.TheConstants.{MAX_VARIABLE}
use Rattle.clause_defs.specs.Clauses.{Lits}
use Rattle.log_defs.specs.Logs.{LogValue, Words, HasDerived, Extends, all_clauses, clause_of_log}
use Rattle.log_defs.specs.declared.log_end.LogEnd.{LogEnd}
use Rattle.log_defs.specs.declared.log_end.LogEnd.TheVariants.{Kept, Spent}
use Rattle.leaf_defs.specs.Evaluated.{Evaluated, IsEvaluated, IsFalseAmong}

-- room for chains over the variables below this number
pub record HasRoom (variables antecedent_room literal_room : ℕ) : Type 0 where
  pub some : 1 ≤ variables
  pub few : variables ≤ MAX_VARIABLE + 1
  pub antecedents : variables ≤ antecedent_room
  pub literals : variables ≤ literal_room

-- the reasons are clauses of the log
abbrev pub IsEvaluatedIn : LogValue → Evaluated → Type 0
IsEvaluatedIn log e = IsEvaluated (all_clauses log.originals.clauses log.derived) e

-- the most words that such a clause has: each variable gives a literal, where it was chosen, or else an antecedent
abbrev pub leaf_words : Evaluated → ℕ
leaf_words e = length e.order + 4

-- The derived clause with the index has false literals of chosen variables alone. Every derived clause is an old
-- one, or it is this one and the last.
pub record IsLeaf (e : Evaluated) (before after : LogValue) (index : ℕ) : Type 0 where
  pub log_is : Extends before after
  pub behind_originals : length after.originals.clauses < index
  pub within : index ≤ length after.originals.clauses + length after.derived
  pub chosen_alone : IsFalseAmong e.values (take e.chosen e.order) (clause_of_log after index)
  pub old_or_last : (c : Lits) (i : ℕ) → HasDerived after c i
      → HasDerived before c i ⊎ ((i ≡ index) × (i ≡ length after.originals.clauses + length after.derived))
  pub words : Words after.derived ≤ Words before.derived + leaf_words e

-- the clause is over the budget
pub record IsLeafSpent (e : Evaluated) (before after : LogValue) (used need : ℕ) : Type 0 where
  pub log_is : after ≡ before
  pub used_is : used ≡ Words before.derived
  pub need_low : 4 ≤ need
  pub need_high : need ≤ leaf_words e
  pub over : before.budget < used + need

-- The chain ends so: with the clause that it derived or that was there already, or over the budget.
abbrev pub LeafEnds : Evaluated → LogValue → Result ℕ LogEnd → LogValue → Type 0
LeafEnds e before (Ok index) after = IsLeaf e before after index
LeafEnds e before (Err (Kept index)) after = ⊥
LeafEnds e before (Err (Spent used need)) after = IsLeafSpent e before after used need
