use Rattle.std.proofs.Common.{◌≡◌, drop}
use Rattle.sat_text.specs.Climbing.{climbs_from}
use Rattle.sat_text.proofs.literal_order.climbs.Given as goal

-- the literals that are left climb from the last one where all climb
abbrev pub invariant-loop-l : goal.invariant-loop-l
invariant-loop-l l = climbs_from l.least (drop l.l-index l.lits) ≡ climbs_from 0 l.lits
