use Rattle.miter_size.proofs.TraceLengths.{short-trace}
use Rattle.miter_size.proofs.laws.trace_fits.Goals as goal

pub returns : goal.returns
returns c = short-trace
