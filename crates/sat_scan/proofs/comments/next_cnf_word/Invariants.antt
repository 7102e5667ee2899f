use Rattle.std.proofs.Common.{length, ◌-◌, ◌≡◌, ◌≤◌}
use Rattle.sat_scan.specs.Scan.{cnf_tokens_from}
use Rattle.sat_scan.proofs.comments.next_cnf_word.Given as goal

-- from here the same tokens come as from where the search began
abbrev pub invariant-loop-at : goal.invariant-loop-at
invariant-loop-at l = record {
  not_before : l.from ≤ l.at;
  within : l.at ≤ length l.text;
  skipped : cnf_tokens_from l.from l.text ≡ cnf_tokens_from l.at l.text;
}

-- how many bytes are left
abbrev pub decreases-loop-at : goal.decreases-loop-at
decreases-loop-at l = length l.text - l.at
