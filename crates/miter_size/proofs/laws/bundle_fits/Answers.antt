use Rattle.miter_size.proofs.BundleLengths.{bundle-fits}
use Rattle.miter_size.proofs.laws.bundle_fits.Goals as goal

pub returns : goal.returns
returns c = bundle-fits
