use Rattle.std.proofs.Common.{get_or}
use Rattle.log_laws.proofs.TraceOfLemmas.{Has-get_or}
use Rattle.proof_log.proofs.trace.list_places.Goals as goal

pub overflow_sub-index : goal.overflow_sub-index
overflow_sub-index c =
    c.requires (get_or c.args.indices.now c.loop-index.index-index 0) (Has-get_or c.args.indices.now c.loop-index.index-index 0 c.loop-index-test.true)
