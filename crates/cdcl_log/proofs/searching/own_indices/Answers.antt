use Rattle.std.proofs.Common.{◌+◌, length, ap, ◌∙◌, arith, length-set}
use Rattle.std.proofs.lemmas.List.{length-replicate}
use Rattle.cdcl_log.proofs.IndexLemmas.{own_start, own_more}
use Rattle.cdcl_log.proofs.searching.own_indices.Goals as goal

-- all are 0 at first
pub loop-k-init : goal.loop-k-init
loop-k-init c =
    let n = c.args.originals + c.args.more + 1 in
    let zeros = (c.in_ok-indices.ensures {u = tt}).items_if_clones_equal (λ y e. e) in
    record {
      size = ap length zeros ∙ length-replicate n 0;
      own = λ j low. own_start n c.in_ok-indices.indices.items zeros j low;
    }

-- one more number is written
pub loop-k-preserved : goal.loop-k-preserved
loop-k-preserved c =
    let k = c.loop-k.k in
    let size = c.loop-k.invariant.size in
    let lt = c.loop-k-test.true in
    record {
      size = length-set c.loop-k.indices.items (k + 1) (k + 1) ∙ size;
      own = λ j low. own_more c.loop-k.indices.items k c.loop-k.invariant.own (omega arith) j low;
    }
