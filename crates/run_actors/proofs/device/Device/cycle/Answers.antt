use Rattle.std.proofs.Common.{length, subst}
use Rattle.slot_core.specs.Values.{TableValue}
use Rattle.script_defs.specs.declared.command.Command.TheVariants.{Cycle}
use Rattle.run_script.specs.Replies.{reply_of}
use Rattle.run_actors.specs.Steps.{AnswersAlone}
use Rattle.run_actors.proofs.device.Device.cycle.Goals as goal

-- the answer of the slots is the reply, of the table that the device has inside
pub returns-clause-reply : goal.returns-clause-reply
returns-clause-reply c files =
    subst (λ (t : TableValue). AnswersAlone files (length t.journal) (Cycle c.args.slot c.args.bits c.args.probe)
    (reply_of c.cycle_reply.result) t) c.self.view_is
    (c.cycle_reply.ensures files c.self.inside.table c.args.slot c.args.probe c.args.bits c.answer.ensures.reply)
