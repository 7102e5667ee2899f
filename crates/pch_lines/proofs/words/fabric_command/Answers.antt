use Rattle.pch_lines.proofs.WordLemmas.{no_fabric}
use Rattle.pch_lines.proofs.words.fabric_command.Goals as goal

-- too few words name no fabric
pub returns-in_default-clause-command : goal.returns-in_default-clause-command
returns-in_default-clause-command c = no_fabric c.args.kind c.args.words.now c.in_default.len_below
