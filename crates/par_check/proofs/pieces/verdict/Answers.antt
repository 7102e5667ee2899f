use Rattle.std.proofs.Common.{arith, subst}
use Rattle.clause_laws.proofs.Verdict.{verdict_of_first}
use Rattle.chain_check.specs.Rooms.{StopsAt, IsFirstFault}
use Rattle.par_check.proofs.pieces.verdict.Goals as goal

-- the first fault of all places is the verdict
pub returns-in-Some-fault : goal.returns-in-Some-fault
returns-in-Some-fault c =
    let f = c.args.f.now.clauses in
    let t = c.args.t.now in
    let w = c.args.room.now.limit in
    let right = subst (IsFirstFault f t w 0 c.args.stop.place) c.in_default.is c.requires.found in
    let stops = subst (StopsAt t w c.args.stop.place) c.in-Some-fault.is c.requires.stop in
    verdict_of_first f t w c.in-Some-fault.fault (c.args.stop.place, stops.0, (λ j lt. right j (omega arith) lt), stops.1 f)
