use Rattle.pch_shell.proofs.RunLemmas.{ends_of, runs_of}
use Rattle.pch_shell.proofs.calls.command.Goals as goal

-- what was told is what is finished
pub returns-clause-runs : goal.returns-clause-runs
returns-clause-runs g c =
    runs_of _ _ _ _ _ _
    (ends_of c.tell-told.result _ _ _ g.O.Sink.held g.O.Sink.faults c.args.out.now c.finish.new.out c.finish.result
    c.tell-told.ensures.tells c.tell-told.ensures.files c.finish.ensures.put c.finish.ensures.memory)
