use Rattle.std.proofs.Common.{length, ◌-◌, ◌≡◌, ◌≤◌, drop}
use Rattle.text_defs.specs.Tokens.{tokens}
use Rattle.sat_text_defs.specs.Words.{separates}
use Rattle.sat_text_defs.specs.CnfText.{uncommented, first, comment}
use Rattle.sat_scan.proofs.comments.behind_comment.Given as goal

-- inside the comment, the same tokens come as from where it began
abbrev pub invariant-loop-end : goal.invariant-loop-end
invariant-loop-end l = record {
  not_before : l.at ≤ l.end;
  within : l.end ≤ length l.text;
  skipped : tokens separates l.at (uncommented first (drop l.at l.text)) ≡ tokens separates l.end (uncommented comment (drop l.end l.text));
}

-- how many bytes are left
abbrev pub decreases-loop-end : goal.decreases-loop-end
decreases-loop-end l = length l.text - l.end
