use Rattle.std.proofs.Common.{◌≡◌, ℕ, ◌↔◌, ◌⊎◌, length, take}
use Rattle.leaf_chain.specs.Marks.{IsMarked, HasVariable}
use Rattle.leaf_chain.proofs.chains.mark.Given as goal

abbrev pub invariant-loop-l : goal.invariant-loop-l
invariant-loop-l l = record {
  marks : (v : ℕ) → IsMarked l.marks.items v ↔ (IsMarked l.initial.marks.items v ⊎ HasVariable (take l.l-index l.clause) v);
  places : length l.marks.items ≡ length l.initial.marks.items;
}
