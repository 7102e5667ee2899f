use Rattle.std.proofs.Common.{length, map, inl, sym, subst}
use Rattle.std.proofs.lemmas.Result.{IfOk-weaker}
use Rattle.script_defs.specs.declared.command.Command.TheVariants.{Evict}
use Rattle.run_script.specs.Replies.{reply_of}
use Rattle.run_actors.specs.Loading.{contents_of}
use Rattle.run_actors.specs.Steps.{Answered}
use Rattle.run_actors.specs.Progress.{IsSameDevice}
use Rattle.run_actors.proofs.Answering.{answered-same}
use Rattle.run_actors.proofs.lanes.run_command.Goals as goal

-- what answers an eviction keeps the fabric, the slots and the limit
pub returns-in-Evict-clause-device : goal.returns-in-Evict-clause-device
returns-in-Evict-clause-device g c =
    let device = c.args.device.now in
    let files = map contents_of c.args.files.now in
    IfOk-weaker c.evict.result _ (λ _. IsSameDevice device c.evict.new.self)
    (λ r given. answered-same files (length device.journal) c.args.at (Evict c.in-Evict.slot) (reply_of r) device
    c.evict.new.self (given files)) c.evict.ensures

-- an eviction is answered as the device promises
pub returns-in-Evict-clause-reply : goal.returns-in-Evict-clause-reply
returns-in-Evict-clause-reply g c =
    let device = c.args.device.now in
    let files = map contents_of c.args.files.now in
    IfOk-weaker c.evict.result _ _
    (λ r given. subst (λ d. Answered files (length device.journal) c.args.at d (reply_of r) device c.evict.new.self)
    (sym c.in-Evict.is) (given files)) c.evict.ensures

-- a cycle makes no entry and leaves the device as it was
pub returns-in-Cycle-clause-reply : goal.returns-in-Cycle-clause-reply
returns-in-Cycle-clause-reply g c =
    let device = c.args.device.now in
    let files = map contents_of c.args.files.now in
    subst (λ d. Answered files (length device.journal) c.args.at d (reply_of c.cycle.result) device c.cycle.new.self)
    (sym c.in-Cycle.is) (inl (c.cycle.ensures.reply files, c.cycle.ensures.same))

-- and so does a sweep
pub returns-in-Sweep-clause-reply : goal.returns-in-Sweep-clause-reply
returns-in-Sweep-clause-reply g c =
    let device = c.args.device.now in
    let files = map contents_of c.args.files.now in
    subst (λ d. Answered files (length device.journal) c.args.at d (reply_of c.sweep.result) device c.sweep.new.self)
    (sym c.in-Sweep.is) (inl (c.sweep.ensures.reply files, c.sweep.ensures.same))
