use Rattle.net_laws.proofs.AlignLemmas.{inputs-aligned, output_names-aligned}
use Rattle.net_laws.proofs.aligning.aligned_network_has_the_interface.Goals as goal

-- each input stands where its partner in the specification does
pub returns-clause-inputs : goal.returns-clause-inputs
returns-clause-inputs c = inputs-aligned

-- and so does each output
pub returns-clause-outputs : goal.returns-clause-outputs
returns-clause-outputs c = output_names-aligned
