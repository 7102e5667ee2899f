use Rattle.produce.proofs.ComparingLemmas.{pads_enough, compared}
use Rattle.produce.proofs.comparing.differ_at.Goals as goal

-- there is a pad for each output
pub are_others-requires : goal.are_others-requires
are_others-requires c =
    pads_enough c.args.spec.now c.args.config.now c.args.x c.eval-outputs.result c.eval-pads.result c.requires.fits c.eval-outputs.ensures.outputs
    c.eval-pads.ensures.outputs

-- what was compared are the outputs and the pads
pub returns : goal.returns
returns c =
    compared c.args.spec.now c.args.config.now c.args.x c.eval-outputs.result c.eval-pads.result c.are_others.result c.eval-outputs.ensures.outputs
    c.eval-pads.ensures.outputs c.are_others.ensures
