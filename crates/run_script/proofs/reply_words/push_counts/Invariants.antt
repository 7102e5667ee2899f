use Rattle.std.proofs.Common.{◌≡◌, ◌++◌, decimal}
use Rattle.std.specs.Prelude.{slice_index}
use Rattle.blif_defs.specs.Printing.{spaced}
use Rattle.fabric_defs.specs.Numbered.{list_of}
use Rattle.run_script.proofs.reply_words.push_counts.Given as goal

-- the counts so far
abbrev pub invariant-loop-o : goal.invariant-loop-o
invariant-loop-o l = l.out.items ≡ l.fn.out.items ++ spaced (list_of l.o (λ o. decimal (slice_index l.counts o)))
