use Rattle.std.proofs.Common.{◌≡◌, inl, length, sym, subst, vec_capacity, arith}
use Rattle.clause_index.specs.Index.{IsIndex}
use Rattle.clause_index.proofs.IndexLemmas.{IsIndex-settled}
use Rattle.clause_index.proofs.index.ClauseIndex.of.Goals as goal

-- all clauses are indexed
pub invariant_of-result : goal.invariant_of-result
invariant_of-result c =
    let low = c.loop-k-test.false in
    let high = c.loop-k.auto.k-end in
    let len = c.len-len.ensures in
    let all : c.loop-k.k ≡ length c.args.clauses.lists = omega arith in
    record {
      index = subst (λ n. IsIndex c.args.clauses.lists c.loop-k.slots.groups c.loop-k.slots.tags.items c.loop-k.slots.numbers.items c.settle.new.self.runs
          (vec_capacity c.settle.new.self.run) (vec_capacity c.settle.new.self.merged) c.len-len.result n) all
          (IsIndex-settled c.args.clauses.lists _ _ _ c.loop-k.runs.runs c.settle.new.self.runs (vec_capacity c.loop-k.runs.run) (vec_capacity c.loop-k.runs.merged) _ _ c.len-len.result c.loop-k.k
          c.loop-k.invariant
          (record {
            runs_are = c.settle.ensures.runs;
            few = c.settle.ensures.few;
            numbers = let e = c.settle.ensures.numbers in omega arith;
            room = c.settle.ensures.room;
            kept = c.settle.ensures.kept;
          }));
      fit = inl (sym len);
      keys_are = c.in_ok-keys.ensures;
      keys_fit = inl (let many = c.in_ok-keys.ensures.many in omega arith);
    }
