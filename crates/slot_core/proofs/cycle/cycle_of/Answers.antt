use Rattle.std.proofs.Common.{take, refl, sym, ap, subst, ◌∙◌, arith}
use Rattle.fabric_defs.specs.Wirings.{CellBit}
use Rattle.slot_core.proofs.FirstBits.{length-outputs}
use Rattle.slot_core.proofs.cycle.cycle_of.Goals as goal

pub first_bits-requires-clause-within : goal.first_bits-requires-clause-within
first_bits-requires-clause-within c =
    omega (
      arith,
      c.outputs.ensures.count,
      c.requires.fits.outputs,
      length-outputs c.args.config.now c.args.x c.eval-pads.result c.eval-pads.ensures.outputs,
    )

pub returns-clause-given : goal.returns-clause-given
returns-clause-given c = (
  record {
    inputs = omega arith;
    pads = c.eval-pads.result;
    outputs = c.eval-pads.ensures.outputs;
    first = c.first_bits.ensures ∙ ap (λ n. take n c.eval-pads.result) c.outputs.ensures.count;
    probe = subst (CellBit c.args.config.now c.args.x c.args.probe) (sym c.cell.ensures)
        (c.eval-pads.ensures.cells c.args.probe c.requires.probe);
  },
  refl,
)
