use Rattle.std.specs.Arc.{arc_value}
use Rattle.pch_shell.proofs.DemoLemmas.{shown_due, ended_due}
use Rattle.pch_shell.proofs.commands.demonstrating.run.Goals as goal

-- the bundle that is shown is what is saved
pub returns-in-Ok-demonstrate : goal.returns-in-Ok-demonstrate
returns-in-Ok-demonstrate g c =
    shown_due c.args.bits (arc_value c.in-Ok.adders.spec) c.in-Ok.adders.design c.in-Ok.adders.fabric
    c.in-Ok-demonstrate.shown.bundle.items c.in-Ok-demonstrate.shown.ones.items c.in_ok-text-in-Ok-demonstrate.text.items c.done_with.result
    c.in-Ok.ensures.adders c.in-Ok-demonstrate.ensures.shown (rw c.deref.ensures.value at c.in_ok-text-in-Ok-demonstrate.ensures) c.done_with.ensures

-- what is told of an end is due
pub returns : goal.returns
returns g c =
    ended_due c.not_produced.result c.args.bits (arc_value c.in-Ok.adders.spec) c.in-Ok.adders.design c.in-Ok.adders.fabric
    c.in-Err-demonstrate.end c.in-Ok.ensures.adders c.in-Err-demonstrate.ensures.ends
    (rw c.deref-in-Err-demonstrate.ensures at c.not_produced.ensures)
