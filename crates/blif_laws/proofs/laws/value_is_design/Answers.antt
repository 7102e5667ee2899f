use Rattle.blif_laws.proofs.Designs.{design_of_text}
use Rattle.blif_laws.proofs.laws.value_is_design.Goals as goal

-- each line keeps the draft within the limits
pub returns : goal.returns
returns c = design_of_text
