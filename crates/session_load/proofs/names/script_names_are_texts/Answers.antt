use Rattle.session_load.proofs.FileNames.{names-utf8}
use Rattle.session_load.proofs.names.script_names_are_texts.Goals as goal

-- a name is a word of printing bytes
pub returns : goal.returns
returns c = names-utf8
