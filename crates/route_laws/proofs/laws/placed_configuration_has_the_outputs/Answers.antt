use Rattle.route_laws.proofs.FunctionLemmas.{placed_outputs}
use Rattle.route_laws.proofs.laws.placed_configuration_has_the_outputs.Goals as goal

pub returns : goal.returns
returns c l g config x z mapped placed bits out =
    placed_outputs l placed.1 placed.3 placed.2 config x z mapped placed.6 bits out
