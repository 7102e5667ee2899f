use Rattle.std.proofs.Common.{subst, sym}
use Rattle.fabric_defs.specs.Bits.{AreBits}
use Rattle.fabric_laws.proofs.BitLemmas.{wired_channel-bits, wired_pins-bits, wired_cells-bits, pad_bits-bits}
use Rattle.fabric_laws.proofs.laws.bits_are_bits.Goals as goal

-- a track has the bit of a pad or of a cell
pub returns-clause-channels : goal.returns-clause-channels
returns-clause-channels c = wired_channel-bits

-- a pin has the bit of a track
pub returns-clause-pins : goal.returns-clause-pins
returns-clause-pins c = wired_pins-bits

-- a cell has a bit of its table
pub returns-clause-cells : goal.returns-clause-cells
returns-clause-cells c = wired_cells-bits

-- an output pad has the bit of a track
pub returns-clause-outputs : goal.returns-clause-outputs
returns-clause-outputs c k x y bits p = subst AreBits (sym p.2) (pad_bits-bits k x p.0 bits p.1)
