use Rattle.sat_print_laws.proofs.TextLengths.{derived-few}
use Rattle.sat_print_laws.proofs.laws.text_states_few_literals.Goals as goal

pub returns : goal.returns
returns c = derived-few
