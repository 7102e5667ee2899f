-- A running clause as marks of its literals: the mark of the literal with code k stands at place k.
use Rattle.std.specs.Prelude.{◌≡◌, ℕ, ◌+◌, ◌*◌, ◌≤◌, Bool, nat_lt, List, length, slice_index}
use Rattle.clause_defs.specs.declared.verdict.TheConstants.{MAX_VARIABLE}
use Rattle.chain_check.specs.Marks.{literals_where}

-- the mark of a literal of the running clause
abbrev pub is_running : ℕ → Bool
is_running mark = nat_lt 0 mark

-- the mark of one that is of the present level
abbrev pub is_present : ℕ → Bool
is_present mark = nat_lt 1 mark

-- what the marks keep
pub record IsKept (variables : ℕ) (marks : List ℕ) (count room : ℕ) : Type 0 where
  pub few : variables ≤ MAX_VARIABLE
  pub size : length marks ≡ 2 * variables + 2
  pub no_literal : slice_index marks 0 ≡ 0
  pub no_literal_either : slice_index marks 1 ≡ 0
  pub counted : count ≡ length (literals_where is_present 0 marks)
  pub room_for_all : variables + 1 ≤ room
