use Rattle.std.proofs.Common.{◌-◌, false, length, set, take, sym, ap, subst, arith}
use Rattle.std.proofs.lemmas.List.{get_or_read}
use Rattle.clause_defs.specs.Literals.{code}
use Rattle.assignment.specs.Values.{Values, AreTruths}
use Rattle.assignment.proofs.TruthLemmas.{truths_dropped, last_split, last_inside, last_within}
use Rattle.assignment.proofs.assignment.Assignment.drop_last.Goals as goal

pub index_mut-requires : goal.index_mut-requires
index_mut-requires c =
    let lits = c.self.inside.lits.items in
    let there = ap (λ (v : Values). length v.lits) c.self.view_is in
    let low = c.requires in
    let len = c.len-last.ensures in
    let n = c.len-last.result - 1 in
    let read = get_or_read lits n c.index-l.result.now (omega arith) c.index-l.ensures c.index-l.result.now in
    let split = last_split lits n c.index-l.result.now (omega arith) read in
    let inside = last_inside c.self.inside.variables c.self.inside.truths.items lits c.self.invariant.0 c.index-l.result.now (take n lits) split in
    let code_is = c.code.ensures.code in
    omega arith

pub invariant_of-self : goal.invariant_of-self
invariant_of-self c =
    let lits = c.self.inside.lits.items in
    let there = ap (λ (v : Values). length v.lits) c.self.view_is in
    let low = c.requires in
    let len = c.len-last.ensures in
    let n = c.len-last.result - 1 in
    let read = get_or_read lits n c.index-l.result.now (omega arith) c.index-l.ensures c.index-l.result.now in
    let split = last_split lits n c.index-l.result.now (omega arith) read in
    let within = last_within c.self.inside.variables c.self.inside.truths.items lits c.self.invariant.0 c.index-l.result.now (take n lits) split in
    let fewer = truths_dropped c.self.inside.variables c.self.inside.truths.items lits c.self.invariant.0 c.index-l.result.now within (take n lits) split in
    let room = c.self.invariant.1 in
    let capacity = c.truncate.ensures.capacity in (
      subst (λ k. AreTruths c.self.inside.variables (set c.self.inside.truths.items k false) c.truncate.new.self.items) (sym c.code.ensures.code)
          (subst (AreTruths c.self.inside.variables (set c.self.inside.truths.items (code c.index-l.result.now) false)) (sym c.truncate.ensures.items) fewer),
      omega arith,
    )
