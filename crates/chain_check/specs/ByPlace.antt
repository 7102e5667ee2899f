-- Lists of literals by places, kept as parts of one list.
use Rattle.std.specs.Prelude.{ℕ, ◌+◌, ◌^◌, ◌<◌, ◌≤◌, List, get_or, map, take, drop}
use Rattle.clause_defs.specs.Clauses.{Lits}
use Rattle.chain_check.specs.declared.computed.Span.{Span}

-- At each place the clause that was put there, and [] where none was; how many literals these have
-- together, and how many there is room for.
pub record ClausesByPlace : Type 0 where
  pub clauses : List Lits
  pub total : ℕ
  pub room : ℕ

-- the literals of the array that the span bounds
abbrev pub part_of : Lits → Span → Lits
part_of lits s = take s.len (drop s.start lits)

-- the literals of each span, by place
abbrev pub parts_of : Lits → List Span → List Lits
parts_of lits spans = map (part_of lits) spans

-- the part of no literals
abbrev pub no_part : Span
no_part = record { start = 0; len = 0 }

-- every part ends within the list
abbrev pub EachEndsBy : ℕ → List Span → Type 0
EachEndsBy n spans = (p : ℕ) → (get_or spans p no_part).start + (get_or spans p no_part).len ≤ n

-- the parts are of the list, which is short enough to be counted in 32 bits
pub record AreParts (spans : List Span) (literals : ℕ) : Type 0 where
  pub within : EachEndsBy literals spans
  pub short : literals < 2 ^ 32
