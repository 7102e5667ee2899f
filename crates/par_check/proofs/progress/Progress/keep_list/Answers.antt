use Rattle.std.proofs.Common.{List, Bor, get_or, sym, subst, arith}
use Rattle.std.proofs.lemmas.Slice.Zip.{AllZip-long}
use Rattle.clause_defs.specs.Traces.{Entry}
use Rattle.par_check.specs.Progress.{IsComputedBy}
use Rattle.par_check.proofs.ProgressLemmas.{zip_at, advances_on, stays_on}
use Rattle.par_check.proofs.progress.Progress.keep_list.Goals as goal

-- there are as many places as lists
pub bounds-places-i : goal.bounds-places-i
bounds-places-i c =
    let long = AllZip-long (IsComputedBy c.args.self.now.t.now c.args.room.now.computed.clauses c.args.self.now.done.items) c.args.places.now c.args.lists.now.lists c.requires.lists in
    let len = c.len-i-end.ensures in
    let lt = c.loop-i-test.true in omega arith

-- the next clause was computed, and is still
pub keep-requires-clause-computed : goal.keep-requires-clause-computed
keep-requires-clause-computed c =
    let inv = c.loop-i.invariant in
    let k = get_or c.args.places.now c.loop-i.i 0 in
    let own = zip_at (IsComputedBy c.args.self.now.t.now c.args.room.now.computed.clauses c.args.self.now.done.items) c.args.places.now c.args.lists.now.lists c.loop-i.i 0
    c.get.result.now c.requires.lists c.get.ensures.list in
    subst (λ (b : Bor (List Entry)). IsComputedBy b.now c.loop-i.room.computed.clauses c.loop-i.self.done.items k c.get.result.now) (sym inv.advances.trace)
    (inv.later k c.get.result.now own)

-- one clause more is kept
pub loop-i-preserved : goal.loop-i-preserved
loop-i-preserved c =
    let inv = c.loop-i.invariant in
    let own = c.if-not-keep.ensures {u = tt} in
    let was = c.args.self.now in
    let mid = c.loop-i.self in
    let now = c.keep.new.self in
    record {
      advances = advances_on was mid now c.args.room.now c.loop-i.room c.keep.new.room inv.advances own.advances;
      so_far = own.done;
      later = stays_on was mid now c.args.room.now c.loop-i.room c.keep.new.room inv.advances inv.later own.later;
    }
