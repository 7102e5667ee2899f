use Rattle.std.proofs.Common.{◌≡◌, ◌+◌, ◌-◌, [], length, slice_get, sym, ap, ◌∙◌, arith}
use Rattle.std.proofs.lemmas.List.Sums.{sum_by_more}
use Rattle.std.proofs.lemmas.Option.{get_or_from_slice_get}
use Rattle.sat_trail.proofs.trail.literals_in.Goals as goal

pub loop-k-preserved : goal.loop-k-preserved
loop-k-preserved c =
    let at : c.loop-k.k + 1 - 1 ≡ c.loop-k.k = omega arith in
    let read = get_or_from_slice_get c.args.set.now.clauses c.loop-k.k c.clause-more.result.now [] (ap (slice_get c.args.set.now.clauses) (sym at) ∙ c.clause-more.ensures.lits) in
    let more = sum_by_more length c.args.set.now.clauses c.loop-k.k [] (let a = c.loop-k-test.true in let b = c.requires in omega arith) in
    let long = ap length read in
    let before = c.loop-k.invariant in
    omega arith
