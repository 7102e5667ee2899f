use Rattle.std.proofs.Common.{◌≡◌}
use Rattle.fabric_defs.specs.Numbered.{list_of}
use Rattle.miter_cnf.specs.Numbered.{flags_before}
use Rattle.miter_cnf.proofs.sums.flags_before.Given as goal

-- the numbers so far count the true flags before them, and the next one all of these
abbrev pub invariant-loop-flag : goal.invariant-loop-flag
invariant-loop-flag l = record {
  done : l.numbers.items ≡ list_of l.flag-index (flags_before l.first l.flags);
  next : l.next ≡ flags_before l.first l.flags l.flag-index;
}
