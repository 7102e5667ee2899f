use Rattle.std.proofs.Common.{arith}
use Rattle.map_defs.specs.Reference.{cell_in}
use Rattle.lut_map.specs.Parts.{source_by}
use Rattle.lut_map.proofs.PlaceLemmas.{placed_step}
use Rattle.lut_map.proofs.placing.push_node_placed.Goals as goal

pub push_placed-requires-clause-first : goal.push_placed-requires-clause-first
push_placed-requires-clause-first c = omega (arith, c.requires.first, c.requires.end, c.requires.few)

pub loop-k-preserved : goal.loop-k-preserved
loop-k-preserved c = record {
  from = omega (arith, c.loop-k.invariant.from);
  made = placed_step (cell_in (source_by c.args.inputs c.args.ends.now) c.args.fan_ins.now c.args.first) c.args.own.now c.args.cells.now
      c.loop-k.cells c.push_placed.new.cells c.args.first c.loop-k.k c.get-cell.result.pins.now c.get-cell.result.table
      c.loop-k.invariant.from (omega (arith, c.requires.end)) c.get-cell.ensures.pins c.get-cell.ensures.table c.loop-k.invariant.made
      c.in_ok-push_placed.ensures;
}
