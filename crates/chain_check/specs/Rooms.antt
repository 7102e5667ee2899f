-- The room that a checker of traces takes before it starts, and what stands in it.
use Rattle.std.specs.Prelude.{◌≡◌, ℕ, ◌*◌, ◌^◌, ◌<◌, ◌≤◌, List, [], length, get_or, min, vec_capacity, Option, Some, None}
use Rattle.clause_defs.specs.Clauses.{Lits}
use Rattle.clause_defs.specs.Traces.{Entry, IsCompactAt, lits_at}
use Rattle.clause_defs.specs.Verdicts.{ClauseFault}
use Rattle.clause_defs.specs.declared.verdict.Verdict.{Verdict}
use Rattle.clause_defs.specs.TraceClauses.{computed_before}
use Rattle.chain_check.specs.Known.{AreOver, IsKnownBefore, signs_before}
use Rattle.chain_check.specs.declared.room.Room.{Room}

-- the room is enough for the trace, whatever stands in it
pub record IsRoomFor (t : List Entry) (room : Room) : Type 0 where
  pub short : room.limit < 2 ^ 32
  pub covered : (p : ℕ) → AreOver room.marks.variables (lits_at t p)
  pub places : (p : ℕ) → IsCompactAt t p → p < length room.computed.clauses
  pub clause : 2 * room.marks.variables ≤ vec_capacity room.clause
  pub computed : min room.limit (2 * room.marks.variables * signs_before t (length t)) ≤ room.computed.room

-- the clauses before place k are known, and the literals of those with the sign are counted
pub record KnowsBefore (t : List Entry) (room : Room) (k : ℕ) : Type 0 where
  pub known : IsKnownBefore t room.marks.variables room.computed.clauses k
  pub later : (p : ℕ) → k ≤ p → get_or room.computed.clauses p [] ≡ []
  pub total : room.computed.total ≡ computed_before t k
  pub within : room.computed.total ≤ room.limit
  pub narrow : room.computed.total ≤ 2 * room.marks.variables * signs_before t k

-- every clause with the sign before place n is right, whatever the list
abbrev pub SignsAreRight : List Entry → ℕ → ℕ → Type 0
SignsAreRight t w n = (k : ℕ) → k < n → IsCompactAt t k → (f : List Lits) → ClauseFault f t w k None

-- where the computing of the clauses with the sign stops: at the end, or at the first faulty one
abbrev pub StopsAt : List Entry → ℕ → ℕ → Option Verdict → Type 0
StopsAt t w place None = place ≡ length t
StopsAt t w place (Some v) = (place < length t) × ((f : List Lits) → ClauseFault f t w place (Some v))

-- every clause at the places from the first to before the second is right
abbrev pub RightBetween : List Lits → List Entry → ℕ → ℕ → ℕ → Type 0
RightBetween f t w from to = (k : ℕ) → from ≤ k → k < to → ClauseFault f t w k None

-- the fault of the first faulty clause at the places from the first to before the second, if there is one
abbrev pub IsFirstFault : List Lits → List Entry → ℕ → ℕ → ℕ → Option Verdict → Type 0
IsFirstFault f t w from to None = RightBetween f t w from to
IsFirstFault f t w from to (Some v) =
    (k : ℕ) × (from ≤ k) × (k < to) × RightBetween f t w from k × ClauseFault f t w k (Some v)
