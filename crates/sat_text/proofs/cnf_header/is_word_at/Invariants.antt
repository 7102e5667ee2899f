use Rattle.std.proofs.Common.{length, ◌+◌, ◌≡◌, ◌≤◌, drop}
use Rattle.sat_text_defs.specs.CnfReading.{same_word}
use Rattle.sat_scan.specs.Scan.{word_at, behind_word_at}
use Rattle.sat_text.proofs.cnf_header.is_word_at.Given as goal

-- what is left of both words is the same where both are
abbrev pub invariant-loop-byte : goal.invariant-loop-byte
invariant-loop-byte l = record {
  end : l.end ≡ l.at + l.byte-index;
  within : l.end ≤ length l.text;
  value : same_word (word_at l.end l.text) (drop l.byte-index l.word) ≡ same_word (word_at l.at l.text) l.word;
  behind : behind_word_at l.end l.text ≡ behind_word_at l.at l.text;
}
