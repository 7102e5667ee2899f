use Rattle.blif_laws.proofs.Saying.{said}
use Rattle.blif_laws.proofs.laws.value_is_what_lines_say.Goals as goal

-- each line adds the names or the line that it says
pub returns : goal.returns
returns c = said
