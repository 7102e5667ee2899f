use Rattle.std.proofs.Common.{◌≡◌, ◌++◌}
use Rattle.fabric_defs.specs.Numbered.{list_of}
use Rattle.placing_words.proofs.cells.push_off.Given as goal

abbrev pub invariant-loop-i : goal.invariant-loop-i
invariant-loop-i l = l.words.items ≡ l.initial.words.items ++ list_of l._i (λ j. 0)
