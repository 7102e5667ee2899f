use Rattle.std.proofs.Common.{◌≡◌, ◌++◌, ◌-◌, ◌*◌, ◌/◌, ◌%◌, ◌^◌}
use Rattle.fabric_defs.specs.Numbered.{list_of}
use Rattle.fabric_defs.specs.declared.limits.TheConstants.{WORD_BITS}
use Rattle.placing_words.proofs.cells.push_table.Given as goal

abbrev pub invariant-loop-j : goal.invariant-loop-j
invariant-loop-j l =
    l.words.items ≡ l.initial.words.items ++ list_of l.j (λ j. l.table / 2 ^ (WORD_BITS * (l.count - 1 - j)) % 2 ^ WORD_BITS)
