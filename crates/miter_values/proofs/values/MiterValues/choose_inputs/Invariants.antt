use Rattle.std.proofs.Common.{◌≡◌, length}
use Rattle.miter_values.specs.Parts.{circuits_of, AreChosen}
use Rattle.miter_values.proofs.values.MiterValues.choose_inputs.Given as goal

-- the inputs so far were chosen
abbrev pub invariant-loop-i : goal.invariant-loop-i
invariant-loop-i l = record {
  chosen : AreChosen (circuits_of l.self.net l.self.cells) l.x l.i l.e;
  places : length l.e.values ≡ length l.fn.e.values;
}
