use Rattle.std.proofs.Common.{◌≡◌}
use Rattle.fabric_defs.specs.Numbered.{list_of}
use Rattle.fabric_defs.specs.Spelling.{word_at}
use Rattle.fabric_bytes.proofs.reading.read_words.Given as goal

-- the words so far are those of the pairs of bytes
abbrev pub invariant-loop-j : goal.invariant-loop-j
invariant-loop-j l = l.words.items ≡ list_of l.j (word_at l.b)
