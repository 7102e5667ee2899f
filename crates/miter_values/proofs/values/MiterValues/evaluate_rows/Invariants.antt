use Rattle.std.proofs.Common.{◌≡◌}
use Rattle.miter_places.specs.Places.{first_of_row}
use Rattle.miter_values.specs.Growing.{Grows}
use Rattle.miter_values.specs.Parts.{circuits_of, IsRowOf, IsHit}
use Rattle.miter_values.proofs.values.MiterValues.evaluate_rows.Given as goal

-- the rows so far have their values
abbrev pub invariant-loop-r : goal.invariant-loop-r
invariant-loop-r l = record {
  grows : Grows (circuits_of l.self.net l.self.cells) l.initial.e l.e (IsRowOf l.self.net l.v l.r);
  hit : IsHit l.self.net l.v l.e l.r l.hit;
  number : l.number ≡ first_of_row l.self.net l.v l.r;
}
