use Rattle.std.proofs.Common.{◌≡◌, slice_index}
use Rattle.fabric_defs.specs.Numbered.{joined}
use Rattle.fabric_bytes.proofs.SpellingLemmas.{pair_of}
use Rattle.fabric_bytes.proofs.printing.print_config.Given as goal

-- the words so far are printed, two bytes each
abbrev pub invariant-loop-word : goal.invariant-loop-word
invariant-loop-word l = l.bytes.items ≡ joined l.word-index (λ j. pair_of (slice_index l.words j))
