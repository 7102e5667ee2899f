use Rattle.std.proofs.Common.{rules, ◌≡◌, ◌<◌, ◌≤◌, ℕ, Bool, false, length, Some, refl, ap, ◌∙◌, arith}
use Rattle.std.specs.Bool.{IsTrue, Decides}
use Rattle.journal_defs.specs.Journals.{spec_at}
use Rattle.run_actors.proofs.Answering.{deliver-made}
use Rattle.run_actors.proofs.device.Device.install.Goals as goal

-- the journal isn't full
room-left : (full : Bool) (n limit : ℕ) → full ≡ false → Decides full (n ≡ limit) → n ≤ limit → n < limit
room-left full n limit is decides le = grind (arith, is, decides, le)

-- the network of what was accepted is the agreed one, and there is room, by the two tests before
pub returns : goal.returns
returns c files file bytes delivered accepted agreed earlier =
    let holds : IsTrue c.is_agreed.result = search rules in
    let agrees : spec_at c.args.self.now.journal c.args.slot ≡ Some c.args.accepted.net =
    c.is_agreed.ensures.0 holds ∙ ap Some (c.deref.ensures ∙ c.net.ensures.net) in
    deliver-made files c.args.at c.args.slot file c.args.checked c.in_ok-append.field-0 c.args.accepted.net bytes
    c.args.accepted.config _ c.args.self.now c.append.new.self agrees
    (rw (c.into_parts-net.ensures.net, c.into_parts-net.ensures.config) refl)
    (room-left c.is_full.result (length c.args.self.now.journal) c.args.self.now.limit c.if-is_full.false
    c.is_full.ensures.full c.is_full.ensures.short)
    c.in_ok-append.ensures.number c.in_ok-append.ensures.entry delivered accepted
