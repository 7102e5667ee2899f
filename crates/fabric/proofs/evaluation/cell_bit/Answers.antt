use Rattle.std.proofs.Common.{arith}
use Rattle.fabric_laws.proofs.LayoutLemmas.{pins_of-le}
use Rattle.fabric.proofs.evaluation.cell_bit.Goals as goal

-- a cell has few pins
pub pins_number-number-requires-clause-few : goal.pins_number-number-requires-clause-few
pins_number-number-requires-clause-few c = omega (arith, pins_of-le c.args.config.now.geometry.kind, c.pins_in.ensures.count)

-- and each listens to a track of the channel
pub pins_number-number-requires-clause-within : goal.pins_number-number-requires-clause-within
pins_number-number-requires-clause-within c = λ i d lt. omega (arith, c.pins_in.ensures.within i d lt, c.requires.places)
