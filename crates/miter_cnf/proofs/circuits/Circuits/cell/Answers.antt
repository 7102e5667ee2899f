use Rattle.std.proofs.Common.{ap, length, arith}
use Rattle.fabric_defs.specs.Geometries.{cell_count}
use Rattle.miter_cnf.specs.Numbered.{NumberingValue}
use Rattle.miter_cnf.specs.Circuits.{Circuits}
use Rattle.miter_cnf.proofs.circuits.Circuits.cell.Goals as goal

-- the numbering has a number for each cell
pub cell_or_next-requires : goal.cell_or_next-requires
cell_or_next-requires c =
    omega (
      arith,
      ap (λ (m : NumberingValue). length m.cone) c.self.invariant.numbering,
      c.self.invariant.circuits.are_cells.cone.count,
      ap (λ (s : Circuits). cell_count s.cells.geometry) c.self.view_is,
    )
