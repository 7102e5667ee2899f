-- From the first faults of pieces to that of the whole.
use Rattle.std.proofs.Common.{◌≡◌, ℕ, zero, suc, ◌+◌, ◌*◌, ◌/◌, ◌<◌, ◌≤◌, inl, inr, List, [], ◌∷◌, length, get_or, drop, Option, Some, None, Result, Ok, ◌∙◌, ap, subst, arith}
use Rattle.std.proofs.lemmas.Bool.{cases_lt}
use Rattle.std.proofs.lemmas.List.{drop_more}
use Rattle.std.proofs.lemmas.Nat.{le-div}
use Rattle.std.proofs.Math.Nat.{div-mul-le_self, mul-div_cancel_left, div-le_of_le-mul, mul-le-mul_right}
use Rattle.std.specs.List.{range_with_len, AllZip}
use Rattle.clause_defs.specs.Clauses.{Lits}
use Rattle.clause_defs.specs.Traces.{Entry}
use Rattle.clause_defs.specs.Verdicts.{FirstFault}
use Rattle.clause_defs.specs.declared.verdict.Verdict.{Verdict}
use Rattle.pch_base.specs.declared.memory.NoMemory.{NoMemory}
use Rattle.chain_check.specs.Rooms.{RightBetween, IsFirstFault}
use Rattle.par_check.specs.Pieces.{piece_begin, IsPiece, ArePieces}

module _ (f : List Lits) (t : List Entry) (w : ℕ) where
  -- a first fault of the places from the first on is that of the trace
  pub first_fault : (n : ℕ) (v : Verdict) → n ≤ length t → IsFirstFault f t w 0 n (Some v) → FirstFault f t w v
  first_fault n v le h = (h.0, (let below = h.2 in omega arith), (λ j lt. h.3 j (omega arith) lt), h.4)

  -- what is right between two places is right between the first and a later one, if it is so behind
  pub right_joined : (from mid to : ℕ) → RightBetween f t w from mid → RightBetween f t w mid to → RightBetween f t w from to
  right_joined from mid to a b k low high = elim (cases_lt k mid) [ inl below ↦ a k low below | inr above ↦ b k above high ]

  -- the first fault behind places without one is the first of all
  pub fault_joined : (from mid to n : ℕ) (v : Verdict) → from ≤ mid → to ≤ n → RightBetween f t w from mid → IsFirstFault f t w mid to (Some v) → IsFirstFault f t w from n (Some v)
  fault_joined from mid to n v le far right h =
      (h.0, (let low = h.1 in omega arith), (let high = h.2 in omega arith), right_joined from mid h.0 right h.3, h.4)

  -- behind places that are right, the first fault of the others is the first of all
  pub piece_joined : (from mid to : ℕ) (found : Option Verdict) → from ≤ mid → RightBetween f t w from mid → IsFirstFault f t w mid to found → IsFirstFault f t w from to found
  piece_joined from mid to None le right h = right_joined from mid to right h
  piece_joined from mid to (Some v) le right h = fault_joined from mid to to v le (omega arith) right h

  module _ (n pieces : ℕ) where
    -- where each worker's answer is that of its piece, the answers are those of the pieces, in order
    pub pieces_zip : (R : ℕ → Result (Option Verdict) NoMemory → Type 0)
        → ((p : ℕ) (r : Result (Option Verdict) NoMemory) → R p r → IsPiece f t w n pieces p r)
        → (p count : ℕ) (rs : List (Result (Option Verdict) NoMemory)) → AllZip R (range_with_len p count) rs → ArePieces f t w n pieces p rs
    pieces_zip R is p count [] h = tt
    pieces_zip R is p zero (r ∷ rs) h = absurd h
    pieces_zip R is p (suc count) (r ∷ rs) h = (is p r h.0, pieces_zip R is (p + 1) count rs h.1)

-- pieces begin in their order
pub begins_in_order : (n pieces p : ℕ) → 0 < pieces → piece_begin n pieces p ≤ piece_begin n pieces (p + 1)
begins_in_order n pieces p some =
    le-div (p * n / pieces) ((p + 1) * n) pieces some
    (let below : p * n / pieces * pieces ≤ p * n = div-mul-le_self (p * n) pieces in let more : (p + 1) * n ≡ p * n + n = omega arith in omega arith)

-- the first piece begins with the first place, the last one ends with the last
pub first_begin : (n pieces : ℕ) → piece_begin n pieces 0 ≡ 0
first_begin n pieces = omega arith

-- the last piece ends with the last place
pub last_end : (n pieces : ℕ) → 0 < pieces → piece_begin n pieces pieces ≡ n
last_end n pieces some = mul-div_cancel_left n some

-- each piece begins at a place or at the end
pub begins_within : (n pieces p : ℕ) → p ≤ pieces → piece_begin n pieces p ≤ n
begins_within n pieces p le = div-le_of_le-mul pieces (mul-le-mul_right n le)

module _ (f : List Lits) (t : List Entry) (w n pieces : ℕ) where
  -- the pieces from p on are piece p and those behind it
  pub pieces_first : (rs : List (Result (Option Verdict) NoMemory)) (p : ℕ) (d : Result (Option Verdict) NoMemory) → p < length rs
      → ArePieces f t w n pieces p (drop p rs) → IsPiece f t w n pieces p (get_or rs p d) × ArePieces f t w n pieces (p + 1) (drop (p + 1) rs)
  pieces_first rs p d lt h = subst (ArePieces f t w n pieces p) (drop_more rs p d lt) h

  -- a piece that has found a fault
  pub piece_faulty : (p : ℕ) (r : Result (Option Verdict) NoMemory) (v : Verdict) → p < pieces → RightBetween f t w 0 (piece_begin n pieces p)
      → IsPiece f t w n pieces p r → r ≡ Ok (Some v) → IsFirstFault f t w 0 n (Some v)
  piece_faulty p r v lt right is e =
      fault_joined f t w 0 (piece_begin n pieces p) (piece_begin n pieces (p + 1)) n v (omega arith)
      (begins_within n pieces (p + 1) (omega arith)) right (subst (IsPiece f t w n pieces p) e is)

  -- and one that has found none
  pub piece_right : (p : ℕ) (r : Result (Option Verdict) NoMemory) → RightBetween f t w 0 (piece_begin n pieces p)
      → IsPiece f t w n pieces p r → r ≡ Ok None → RightBetween f t w 0 (piece_begin n pieces (p + 1))
  piece_right p r right is e =
      right_joined f t w 0 (piece_begin n pieces p) (piece_begin n pieces (p + 1)) right (subst (IsPiece f t w n pieces p) e is)

  -- so all are right where no piece has found one
  pub pieces_right : (p : ℕ) → p ≡ pieces → 0 < pieces → RightBetween f t w 0 (piece_begin n pieces p) → RightBetween f t w 0 n
  pieces_right p all some right = subst (RightBetween f t w 0) (ap (piece_begin n pieces) all ∙ last_end n pieces some) right
