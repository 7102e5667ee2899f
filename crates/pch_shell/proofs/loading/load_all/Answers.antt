use Rattle.std.proofs.Common.{arith}
use Rattle.pch_shell.proofs.LoadLemmas.{all_loaded}
use Rattle.pch_shell.proofs.loading.load_all.Goals as goal

-- when no file is left, all are loaded
pub returns-clause-loaded : goal.returns-clause-loaded
returns-clause-loaded g c =
    all_loaded _ c.args.files.now c.loop-file.file-index c.loop-file.loaded (omega arith) c.loop-file.invariant.loaded
