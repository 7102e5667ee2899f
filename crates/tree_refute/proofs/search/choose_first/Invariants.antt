use Rattle.std.proofs.Common.{◌≡◌, List, length}
use Rattle.clause_defs.specs.Clauses.{Lits}
use Rattle.miter_values.specs.Parts.{AreChosen}
use Rattle.tree_refute.proofs.search.choose_first.Given as goal

-- the inputs so far were chosen
abbrev pub invariant-loop-j : goal.invariant-loop-j
invariant-loop-j l = record {
  chosen : (f : List Lits) → AreChosen f l.x l.j l.e;
  places : length l.e.values ≡ length l.fn.e.values;
}
