use Rattle.std.proofs.Common.{sym, ◌∙◌}
use Rattle.journal_defs.specs.Legality.{IsInstallable}
use Rattle.slot_core.proofs.Places.{shared-value, shared-nothing}
use Rattle.live_table.proofs.Running.{runs_checked, runs_agreed, checked_at}
use Rattle.live_table.proofs.tasks.sweep.Goals as goal

-- a configuration runs only where a network is agreed, so this can't be
pub returns-in_default-net-clause-sweep : goal.returns-in_default-net-clause-sweep
returns-in_default-net-clause-sweep c =
    absurd (runs_agreed c.args.t.now c.args.slot c.look-contents.result.now _ c.look-contents.ensures.legal
    c.look-contents.ensures.contents (shared-nothing c.look-contents.result.now.net c.in_default-net.is)
    (shared-value c.look-contents.result.now.config c.in-Some.config c.in-Some.is))

-- the two that were found in the slot are equal
found : (c : goal.After-ones_of-arg-1)
    → IsInstallable c.args.t.now.geometry c.args.t.now.journal c.args.slot c.deref.result.now c.deref-2.result.now
found c =
    checked_at _ _ _ _ _ _ _ c.deref.ensures c.deref-2.ensures
    (runs_checked c.args.t.now c.args.slot c.look-contents.result.now _ _ c.look-contents.ensures.legal
    c.look-contents.ensures.contents (shared-value c.look-contents.result.now.net c.in-Some-net.net c.in-Some-net.is)
    (shared-value c.look-contents.result.now.config c.in-Some.config c.in-Some.is))

-- so the network fits the pads
pub ones_of-requires-clause-fits : goal.ones_of-requires-clause-fits
ones_of-requires-clause-fits c = (found c).equal.fits

-- and the room for wires, which was made for the device's fabric, is for that of the configuration
pub ones_of-requires-clause-wires : goal.ones_of-requires-clause-wires
ones_of-requires-clause-wires c = c.requires.wires ∙ sym (found c).geometry
