use Rattle.std.proofs.Common.{arith}
use Rattle.trace_places.proofs.OtherLemmas.{raised_still}
use Rattle.trace_places.proofs.others.raise.Goals as goal

-- a mark that was set stays so
pub returns-clause-kept : goal.returns-clause-kept
returns-clause-kept c i some =
    let all = (c.in_ok-have_marks.ensures {u = tt}).all in
    let len = c.have_marks.new.marks.ok.0 in
    let within = c.mark.ensures.within in
    let same = c.have_marks.ensures.same i in
    raised_still c.have_marks.new.marks.items c.mark.result i (omega arith) (omega arith)
