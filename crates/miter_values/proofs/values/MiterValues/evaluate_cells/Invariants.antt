use Rattle.std.proofs.Common.{◌≡◌}
use Rattle.miter_places.specs.Places.{first_of_cell}
use Rattle.miter_values.specs.Growing.{Grows}
use Rattle.miter_values.specs.Parts.{circuits_of, IsOfCells}
use Rattle.miter_values.proofs.values.MiterValues.evaluate_cells.Given as goal

-- the cells of the cone so far have their values
abbrev pub invariant-loop-k : goal.invariant-loop-k
invariant-loop-k l = record {
  grows : Grows (circuits_of l.self.net l.self.cells) l.initial.e l.e (IsOfCells l.self.net l.self.cells l.k);
  number : l.number ≡ first_of_cell l.self.net l.self.cells l.k;
}
