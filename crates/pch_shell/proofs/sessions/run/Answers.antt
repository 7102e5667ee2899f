use Rattle.run_script.specs.Views.{script_of}
use Rattle.pch_lines.specs.Sessions.{session_seen}
use Rattle.pch_shell.proofs.SessionLemmas.{names_on, script_tells}
use Rattle.pch_shell.proofs.sessions.run.Goals as goal

-- the names of the files stay texts
pub run_script-requires-clause-names : goal.run_script-requires-clause-names
run_script-requires-clause-names g c κs within =
    names_on c.args.words.kind (script_of c.on_cells-script.result) (script_of c.in-Ok.script) c.on_cells-script.ensures
    c.in-Ok.ensures.names

-- what is told of the script is told of the words
pub returns-clause-tells : goal.returns-clause-tells
returns-clause-tells g c =
    script_tells c.run_script.result (session_seen c.args.words)
    (record { files = g.S.Store.files c.args.store.now; faults = g.S.Store.faults c.args.store.now })
    (record { files = g.S.Store.files c.load_script.new.store; faults = g.S.Store.faults c.load_script.new.store })
    (record { files = g.S.Store.files c.run_script.new.store; faults = g.S.Store.faults c.run_script.new.store })
    c.in-Ok.ensures.value.0 (script_of c.in-Ok.script) (script_of c.on_cells-script.result) c.in-Ok.ensures.value.1
    c.in-Ok.ensures.value.2 c.on_cells-script.ensures c.in-Ok.ensures.files c.in-Ok.ensures.calm c.run_script.ensures.tells
