use Rattle.std.proofs.Common.{◌≡◌}
use Rattle.clause_defs.specs.Verdicts.{AllRightBefore}
use Rattle.chain_check.specs.Rooms.{IsRoomFor, KnowsBefore}
use Rattle.chain_check.proofs.trace.check_room.Given as goal

-- the clauses before this one are known and right
abbrev pub invariant-loop-k : goal.invariant-loop-k
invariant-loop-k l = record {
  right : AllRightBefore l.f.clauses l.t l.fn.room.limit l.k;
  limit : l.room.limit ≡ l.fn.room.limit;
  room : IsRoomFor l.t l.room;
  knows : KnowsBefore l.t l.room l.k;
}
