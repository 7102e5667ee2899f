use Rattle.std.proofs.Common.{◌<◌, length, sym, subst, arith}
use Rattle.journal_defs.specs.Legality.{CanFollow}
use Rattle.slot_core.specs.Values.{TableValue}
use Rattle.slot_core.specs.Entries.{entry_value}
use Rattle.slot_core.proofs.Places.{kept-applied}
use Rattle.slot_core.proofs.table.Table.apply.Goals as goal

pub invariant_of-self : goal.invariant_of-self
invariant_of-self c =
    rw (c.push_reserved.ensures.capacity, c.push_reserved.ensures.items)
    (kept-applied _ _ _ _ c.e.inside.entry _ c.index_mut.result.now c.take.new.self c.args.e c.slot-at.result _
    c.self.invariant c.e.view_is c.slot-at.ensures (omega (arith, c.len.ensures, c.self.inside.entries.ok.0))
    (subst (λ (t : TableValue). length t.journal < t.limit) (sym c.self.view_is) c.requires.room)
    (subst (λ (t : TableValue). c.args.e.slot < t.slots) (sym c.self.view_is) c.requires.slot)
    (subst (λ (t : TableValue). CanFollow t.geometry t.journal c.args.e) (sym c.self.view_is) c.requires.follows)
    c.index_mut.ensures.value (c.take.ensures (entry_value c.e.inside.entry).change c.e.invariant))
