use Rattle.std.proofs.Common.{ℕ, List, Bor, Option, Result, IfSome, sym, subst}
use Rattle.std.proofs.lemmas.Bool.{OnTrue_at}
use Rattle.std.proofs.lemmas.Option.{slice_get_read}
use Rattle.pch_base.specs.declared.memory.NoMemory.{NoMemory}
use Rattle.clause_defs.specs.Literals.{Literal}
use Rattle.clause_defs.specs.Traces.{Entry}
use Rattle.flat_lists.specs.Flat.{Flat}
use Rattle.par_check.specs.Progress.{IsPart, places_of}
use Rattle.par_check.proofs.ProgressLemmas.{part_on, advances_on, stays_on}
use Rattle.par_check.proofs.progress.Progress.keep_parts.Goals as goal

-- what was found of the next part is right still
pub keep_part-requires-clause-found : goal.keep_part-requires-clause-found
keep_part-requires-clause-found c =
    let inv = c.loop-p.invariant in
    let t = c.args.self.now.t.now in
    let was = c.args.room.now.computed.clauses in
    let now = c.loop-p.room.computed.clauses in
    let done = c.loop-p.self.done.items in
    let places = places_of c.args.places.now c.args.parts c.loop-p.p in
    let own = c.index-found-p.result in
    let read = slice_get_read c.args.found.now c.args.parts c.loop-p.p own (sym c.requires.all) c.loop-p-test.true c.index-found-p.is in
    let first = subst (λ (o : Option (Result (Option (Flat Literal)) NoMemory)). IfSome o (λ part. IsPart t was c.args.self.now.done.items places part)) read (c.requires.found c.loop-p.p) in
    subst (λ (b : Bor (List Entry)). IsPart b.now now done c.part.result.now own) (sym inv.advances.trace)
    (subst (λ (ks : List ℕ). IsPart t now done ks own) (sym c.part.ensures.part)
    (part_on t was now c.args.self.now.done.items done inv.later places own first))

-- one part more is kept
pub loop-p-preserved : goal.loop-p-preserved
loop-p-preserved c =
    let inv = c.loop-p.invariant in
    let own = c.in_ok-right.ensures {u = tt} in
    let was = c.args.self.now in
    let mid = c.loop-p.self in
    let now = c.keep_part.new.self in
    record {
      advances = advances_on was mid now c.args.room.now c.loop-p.room c.keep_part.new.room inv.advances own.advances;
      so_far = OnTrue_at c.if-not-right.false own.done;
      later = stays_on was mid now c.args.room.now c.loop-p.room c.keep_part.new.room inv.advances inv.later (OnTrue_at c.if-not-right.false own.later);
    }
