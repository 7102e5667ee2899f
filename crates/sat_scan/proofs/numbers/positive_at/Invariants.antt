use Rattle.std.proofs.Common.{length, ◌-◌, ◌≡◌, ◌+◌, ◌<◌, ◌≤◌}
use Rattle.text_defs.specs.Numbers.{number_from, at_most, positive_within}
use Rattle.sat_scan.specs.Scan.{word_at}
use Rattle.sat_scan.proofs.numbers.positive_at.Given as goal

-- the number so far, with the digits that are left of the word, is the word's
abbrev pub invariant-loop-end : goal.invariant-loop-end
invariant-loop-end l = record {
  behind : l.at < l.end;
  within : l.end ≤ length l.text;
  low : 1 ≤ l.value;
  high : l.value ≤ l.max;
  value : at_most l.max (number_from l.value (word_at l.end l.text)) ≡ positive_within l.max (word_at l.at l.text);
  end : l.end + length (word_at l.end l.text) ≡ l.at + length (word_at l.at l.text);
}

-- how many bytes are left
abbrev pub decreases-loop-end : goal.decreases-loop-end
decreases-loop-end l = length l.text - l.end
