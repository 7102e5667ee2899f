use Rattle.eval_lanes.proofs.LaneLemmas.{vector_mux}
use Rattle.eval_lanes.proofs.blocks.U64x8Block.mux.Goals as goal

pub returns : goal.returns
returns c = λ i lt. vector_mux 8 c.args.even c.args.odd c.args.pin i c.fits-even.0 c.fits-odd.0 c.fits-pin.0 lt
