use Rattle.std.proofs.Common.{◌≡◌, drop}
use Rattle.clause_index.specs.Slots.{hash_from}
use Rattle.clause_index.proofs.slots.hash.Given as goal

-- the hash so far, with the literals that are left, is that of the clause
abbrev pub invariant-loop-l : goal.invariant-loop-l
invariant-loop-l l = hash_from l.hash (drop l.l-index l.lits) ≡ hash_from 0 l.lits
