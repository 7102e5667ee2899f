use Rattle.std.proofs.Common.{◌≡◌, length, drop}
use Rattle.chain_check.specs.Rooms.{RightBetween}
use Rattle.par_check.specs.Pieces.{piece_begin, ArePieces}
use Rattle.par_check.proofs.pieces.first_of_pieces.Given as goal

-- the pieces so far have no fault
abbrev pub invariant-loop-result : goal.invariant-loop-result
invariant-loop-result g l = record {
  right : RightBetween l.f.clauses l.t l.room.limit 0 (piece_begin l.fn.end l.fn.pieces l.result-index);
  rest : ArePieces l.f.clauses l.t l.room.limit l.fn.end l.fn.pieces l.result-index (drop l.result-index l.result-items);
  all : length l.result-items ≡ l.fn.pieces;
}
