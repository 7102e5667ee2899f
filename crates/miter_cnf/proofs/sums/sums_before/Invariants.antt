use Rattle.std.proofs.Common.{◌≡◌}
use Rattle.fabric_defs.specs.Numbered.{list_of}
use Rattle.miter_cnf.specs.Numbered.{sum_before}
use Rattle.miter_cnf.proofs.sums.sums_before.Given as goal

-- the sums so far are those of the counts before them, and the next one that of all of these
abbrev pub invariant-loop-count : goal.invariant-loop-count
invariant-loop-count l = record {
  done : l.sums.items ≡ list_of l.count-index (sum_before l.first l.counts);
  next : l.next ≡ sum_before l.first l.counts l.count-index;
}
