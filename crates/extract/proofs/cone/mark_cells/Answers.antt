use Rattle.std.proofs.Common.{arith}
use Rattle.cell_defs.specs.declared.source.Source.TheVariants.{Zero, Cell}
use Rattle.extract.proofs.ConeLemmas.{Has-get_or, mark_more, mark_none}
use Rattle.extract.proofs.cone.mark_cells.Goals as goal
use Rattle.extract.proofs.cone.mark_cells.Goals.{in-Cell, in_default}

-- a source that is a cell has a mark
pub index_mut-requires : goal.index_mut-requires
index_mut-requires c =
    let has = Has-get_or c.args.sources.now c.loop-source.source-index Zero (Cell c.in-Cell.cell) c.loop-source-test.true c.in-Cell.is in
    omega (arith, c.requires c.in-Cell.cell has, c.loop-source.invariant.cells, c.loop-source.cone.ok.0)

-- a source marks its cell, or nothing where it is a pad or none
pub loop-source-preserved : goal.loop-source-preserved
loop-source-preserved c =
    elim c.match-source.branch [
      | in-Cell w ↦
          let has = Has-get_or c.args.sources.now c.loop-source.source-index Zero (Cell w.in-Cell.cell) c.loop-source-test.true w.in-Cell.is in
          rw w.cone-is
          (mark_more c.args.cone.now.items c.loop-source.cone.items c.args.sources.now c.loop-source.source-index w.in-Cell.cell
          c.loop-source-test.true w.in-Cell.is (omega (arith, c.requires w.in-Cell.cell has, c.loop-source.invariant.cells)) c.loop-source.invariant)
      | in_default w ↦
          rw w.cone-is
          (mark_none c.args.cone.now.items c.loop-source.cone.items c.args.sources.now c.loop-source.source-index
          c.loop-source-test.true w.in_default.not-Cell c.loop-source.invariant)
    ]
