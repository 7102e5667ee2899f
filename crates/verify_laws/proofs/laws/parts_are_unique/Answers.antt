use Rattle.verify_laws.proofs.Parts.{same_fabric, same_config, same_trace, same_cells_of_parts}
use Rattle.verify_laws.proofs.laws.parts_are_unique.Goals as goal

-- each part is read from its own bytes
pub returns : goal.returns
returns c = record { fabric = same_fabric; config = same_config; trace = same_trace; cells = same_cells_of_parts }
