use Rattle.run_script.specs.Views.{script_of}
use Rattle.pch_shell.proofs.SessionLemmas.{name_at, stops_tell}
use Rattle.pch_shell.proofs.sessions.run_script.Goals as goal

-- the name of the file that can't be used is a text
pub not_usable-requires : goal.not_usable-requires
not_usable-requires g c =
    name_at c.as_slice-uses.result.now c.args.script.now.files c.in-Err.at.file c.index-uses-at.result c.as_slice-uses.ensures
    c.in-Err.ensures.number c.index-uses-at.is c.requires.names

-- what is told of it is told of the script
pub returns-in-Err-clause-tells : goal.returns-in-Err-clause-tells
returns-in-Err-clause-tells g c =
    stops_tell c.not_usable.result (script_of c.args.script.now)
    (record { files = g.S.Store.files c.args.store.now; faults = g.S.Store.faults c.args.store.now })
    (record { files = g.S.Store.files c.load_files.new.store; faults = g.S.Store.faults c.load_files.new.store })
    c.as_slice-uses.result.now c.in-Err.at.file c.in-Err.at.fault
    c.index-uses-at.result c.as_slice-uses.ensures c.in-Err.ensures.fault c.in-Err.ensures.number c.index-uses-at.is c.not_usable.ensures
