use Rattle.run_script.specs.Views.{script_of}
use Rattle.session_load.proofs.FileNames.{names-utf8}
use Rattle.session_load.proofs.script.load_script.Goals as goal

-- the script is that of the loaded bytes, so its names are words of them
pub returns-in-Ok-read_script-clause-names : goal.returns-in-Ok-read_script-clause-names
returns-in-Ok-read_script-clause-names g c =
    names-utf8 c.deref.result.now (script_of c.in-Ok-read_script.script) c.in-Ok-read_script.ensures.answer
