use Rattle.std.proofs.Common.{◌≡◌, take}
use Rattle.std.specs.Vec.{vec_capacity}
use Rattle.chain_check.specs.Marks.{literals_where}
use Rattle.conflict_chain.specs.Kept.{is_running}
use Rattle.conflict_chain.proofs.chain.ConflictChain.list.Given as goal

-- the literals with lower codes were listed
abbrev pub invariant-loop-code : goal.invariant-loop-code
invariant-loop-code l = record {
  listed : l.lits.items ≡ literals_where is_running 0 (take l.code l.self-inside.marks.items);
  room : vec_capacity l.lits ≡ vec_capacity l.initial.lits;
}
