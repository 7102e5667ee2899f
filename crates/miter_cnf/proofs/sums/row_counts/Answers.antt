use Rattle.std.proofs.Common.{ap, length, arith}
use Rattle.miter_cnf.proofs.NumberLemmas.{rows-few}
use Rattle.miter_cnf.proofs.sums.row_counts.Goals as goal

-- a node has few rows
pub overflow_cast-node_rows : goal.overflow_cast-node_rows
overflow_cast-node_rows c =
    omega (
      arith,
      rows-few c.args.net.now c.loop-v.v c.nodes-v-end.ensures.net (omega arith),
      ap length c.node_rows.ensures,
    )
