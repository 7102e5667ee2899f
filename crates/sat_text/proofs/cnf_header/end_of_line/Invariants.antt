use Rattle.std.proofs.Common.{length, ◌-◌, ◌≡◌, ◌≤◌, drop}
use Rattle.sat_text_defs.specs.CnfText.{line_end}
use Rattle.sat_text.proofs.cnf_header.end_of_line.Given as goal

-- the line ends where it does from here
abbrev pub invariant-loop-end : goal.invariant-loop-end
invariant-loop-end l = record {
  within : l.end ≤ length l.text;
  value : line_end l.end (drop l.end l.text) ≡ line_end l.from (drop l.from l.text);
}

-- how many bytes are left
abbrev pub decreases-loop-end : goal.decreases-loop-end
decreases-loop-end l = length l.text - l.end
