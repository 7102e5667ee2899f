use Rattle.std.proofs.Common.{◌≡◌}
use Rattle.std.specs.Vec.{vec_capacity}
use Rattle.leaf_chain.specs.Marks.{IsCollected}
use Rattle.leaf_chain.proofs.chains.Chains.collect.Given as goal

-- the false literals of the marked variables so far
abbrev pub invariant-loop-i : goal.invariant-loop-i
invariant-loop-i l = record {
  collected : IsCollected l.e l.self-inside.marks.items l.i l.self-inside.lits.items;
  marks : l.self-inside.marks ≡ l.initial.self-inside.marks;
  antecedents : l.self-inside.antecedents ≡ l.initial.self-inside.antecedents;
  room : vec_capacity l.self-inside.lits ≡ vec_capacity l.initial.self-inside.lits;
}
