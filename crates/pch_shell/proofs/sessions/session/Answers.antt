use Rattle.pch_lines.specs.Words.{words_in}
use Rattle.pch_lines.specs.Sessions.{session_form}
use Rattle.pch_shell.proofs.SessionLemmas.{answers_of}
use Rattle.pch_shell.proofs.sessions.session.Goals as goal

-- what was told is what is finished
pub returns-clause-answers : goal.returns-clause-answers
returns-clause-answers g c =
    answers_of c.tell-told.result (session_form (words_in c.args.words.now)) g.S.Store.files g.S.Store.faults c.args.store.now
    c.tell-told.new.store g.O.Sink.held g.O.Sink.faults c.args.out.now c.finish.new.out c.finish.result c.tell-told.ensures.tells
    c.tell-told.ensures.untouched c.tell-told.ensures.files c.finish.ensures.put c.finish.ensures.memory
