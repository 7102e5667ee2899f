use Rattle.std.proofs.Common.{ℕ}
use Rattle.chain_check.specs.Rooms.{SignsAreRight, RightBetween}
use Rattle.par_check.proofs.pieces.originals.Given as goal

-- the clauses so far are right, if those with the sign are
abbrev pub invariant-loop-k : goal.invariant-loop-k
invariant-loop-k l = (w : ℕ) → SignsAreRight l.t w l.fn.to → RightBetween l.f.clauses l.t w l.fn.from l.k
