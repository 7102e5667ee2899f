-- A run of places divided into pieces.
use Rattle.std.specs.Prelude.{ℕ, ◌+◌, ◌*◌, ◌/◌, List, [], ◌∷◌, Option, Result, IfOk}
use Rattle.clause_defs.specs.Clauses.{Lits}
use Rattle.clause_defs.specs.Traces.{Entry}
use Rattle.clause_defs.specs.declared.verdict.Verdict.{Verdict}
use Rattle.pch_base.specs.declared.memory.NoMemory.{NoMemory}
use Rattle.chain_check.specs.Rooms.{IsFirstFault}

-- where piece p of so many begins, over the places from 0 to before n
abbrev pub piece_begin : ℕ → ℕ → ℕ → ℕ
piece_begin n pieces p = p * n / pieces

-- what a piece has found: the fault of its first faulty clause, if there is one; unless memory was wanting
abbrev pub IsPiece : List Lits → List Entry → ℕ → ℕ → ℕ → ℕ → Result (Option Verdict) NoMemory → Type 0
IsPiece f t w n pieces p result = IfOk result (IsFirstFault f t w (piece_begin n pieces p) (piece_begin n pieces (p + 1)))

-- what the pieces from p on have found, in their order
abbrev pub ArePieces : List Lits → List Entry → ℕ → ℕ → ℕ → ℕ → List (Result (Option Verdict) NoMemory) → Type 0
ArePieces f t w n pieces p [] = Unit {0}
ArePieces f t w n pieces p (r ∷ rs) = IsPiece f t w n pieces p r × ArePieces f t w n pieces (p + 1) rs
