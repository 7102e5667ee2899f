use Rattle.std.proofs.Common.{◌≡◌}
use Rattle.chain_check.specs.Rooms.{IsRoomFor, KnowsBefore, SignsAreRight}
use Rattle.chain_check.proofs.room.Room.compute_all.Given as goal

-- the clauses before this one are known, and those with the sign are right
abbrev pub invariant-loop-k : goal.invariant-loop-k
invariant-loop-k l = record {
  limit : l.self.limit ≡ l.fn.self.limit;
  room : IsRoomFor l.t l.self;
  right : SignsAreRight l.t l.fn.self.limit l.k;
  knows : KnowsBefore l.t l.self l.k;
}
