use Rattle.std.proofs.Common.{◌≡◌, ◌++◌}
use Rattle.demo_texts.specs.Names.{names_of}
use Rattle.demo_texts.proofs.covers.push_names.Given as goal

abbrev pub invariant-loop-number : goal.invariant-loop-number
invariant-loop-number l = l.names.items ≡ l.fn.names.items ++ names_of l.letter l.number
