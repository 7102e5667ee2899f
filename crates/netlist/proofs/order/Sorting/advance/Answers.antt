use Rattle.std.proofs.Common.{◌≡◌, ℕ, ◌+◌, ◌-◌, ◌<◌, ◌∙◌, sym, ap, subst, arith, length, get_or}
use Rattle.std.proofs.lemmas.List.{get_or_read}
use Rattle.net_defs.specs.Networks.{signals}
use Rattle.netlist.specs.Sortings.{state_at}
use Rattle.netlist.specs.declared.order.State.TheVariants.{New, Open}
use Rattle.netlist.proofs.SortingSteps.{IsSorting-opened, IsSorting-closed}
use Rattle.netlist.proofs.SearchLemmas.{open_not_settled, work_passed, within_left, pin_within, needed_by_pin}
use Rattle.netlist.proofs.order.Sorting.advance.Goals as goal

-- a node whose pins were all looked at may be closed
pub returns-then-pins-eq0-clause-sound : goal.returns-then-pins-eq0-clause-sound
returns-then-pins-eq0-clause-sound c =
    let s = c.args.self.now in
    let e = c.in_ok-close.ensures in
    let h = c.requires.sound in
    let lt = within_left c.args.network.now s.states.items s.left.items s.stack.items s.order.items c.args.v h c.requires.stacked c.requires.last in
    let none : get_or s.left.items c.args.v 0 ≡ 0 = sym (get_or_read s.left.items c.args.v c.index-pins.result.now lt c.index-pins.ensures 0) ∙ c.if-pins-eq0.true in
    let size : length s.stack.items ≡ length s.stack.items - 1 + 1 = omega (arith, c.requires.stacked) in
    rw (e.states, e.left, e.stack, e.order)
    (IsSorting-closed c.args.network.now s.states.items s.left.items s.stack.items s.order.items c.args.v (length s.stack.items - 1) h size c.requires.last none)

-- a node to which the pin leads may be opened
pub returns-in_ok-open-in-New-clause-sound : goal.returns-in_ok-open-in-New-clause-sound
returns-in_ok-open-in-New-clause-sound c =
    let s = c.args.self.now in
    let net = c.args.network.now in
    let v = c.args.v in
    let n_is : length c.inputs-inputs.result.now ≡ length net.inputs = ap length c.inputs-inputs.ensures in
    let p : ℕ = c.index-pins.result.now - 1 in
    let e = c.in_ok-open-in-New.ensures in
    let h = c.requires.sound in
    let in_left = within_left net s.states.items s.left.items s.stack.items s.order.items v h c.requires.stacked c.requires.last in
    let w : ℕ = c.fan_in-signal.result - length c.inputs-inputs.result.now in
    let pin = pin_within net s.states.items s.left.items s.stack.items s.order.items v c.index-pins.result.now h in_left c.index-pins.ensures c.if-pins-eq0.false in
    let small : c.fan_in-signal.result < signals net = let P : ℕ → Type 0 = λ m. m < signals net in subst P (sym c.fan_in-signal.ensures) (c.requires.fan_ins v p pin) in
    let w_lt : w < length net.nodes = omega (arith, c.if-signal-inputs.false, n_is) in
    let in_states : w < length s.states.items = omega (arith, h.all_states) in
    let fresh : state_at s.states.items w ≡ New = sym (get_or_read s.states.items w c.index.result.now in_states c.index.ensures New) ∙ c.in-New.is in
    rw (e.states, e.left, e.stack, e.order)
    (IsSorting-opened net s.states.items s.left.items s.stack.items s.order.items w h w_lt fresh
    (λ i i_is. needed_by_pin net s.stack.items v p w i i_is c.requires.last pin (sym c.fan_in-signal.ensures ∙ omega (arith, c.if-signal-inputs.false, n_is))))

-- where the pin leads back to the stack, no open node is settled
pub returns-in-Open-clause-cycle : goal.returns-in-Open-clause-cycle
returns-in-Open-clause-cycle c = λ _ k u u_open settled.
    let s = c.args.self.now in
    let net = c.args.network.now in
    let v = c.args.v in
    let n_is : length c.inputs-inputs.result.now ≡ length net.inputs = ap length c.inputs-inputs.ensures in
    let h = c.requires.sound in
    let in_left = within_left net s.states.items s.left.items s.stack.items s.order.items v h c.requires.stacked c.requires.last in
    let pin = pin_within net s.states.items s.left.items s.stack.items s.order.items v c.index-pins.result.now h in_left c.index-pins.ensures c.if-pins-eq0.false in
    let w : ℕ = c.fan_in-signal.result - length c.inputs-inputs.result.now in
    let small : c.fan_in-signal.result < signals net = let P : ℕ → Type 0 = λ m. m < signals net in subst P (sym c.fan_in-signal.ensures) (c.requires.fan_ins v (c.index-pins.result.now - 1) pin) in
    let in_states : w < length s.states.items = omega (arith, h.all_states, c.if-signal-inputs.false, n_is) in
    let is_open : state_at s.states.items w ≡ Open = sym (get_or_read s.states.items w c.index.result.now in_states c.index.ensures New) ∙ c.in-Open.is in
    let P : ℕ → Type 0 = λ n. state_at s.states.items (c.fan_in-signal.result - n) ≡ Open in
    open_not_settled net s.states.items s.left.items s.stack.items s.order.items v (c.index-pins.result.now - 1) c.fan_in-signal.result
    h c.requires.last pin (sym c.fan_in-signal.ensures) (omega (arith, c.if-signal-inputs.false, n_is))
    (subst P n_is is_open) k u u_open settled

-- a pin to a closed node is one pin less to look at
pub returns-in-Done-clause-less : goal.returns-in-Done-clause-less
returns-in-Done-clause-less c = λ _.
    let s = c.args.self.now in
    let lt = within_left c.args.network.now s.states.items s.left.items s.stack.items s.order.items c.args.v c.requires.sound c.requires.stacked c.requires.last in
    work_passed s.states.items s.left.items s.stack.items c.args.v c.index-pins.result.now lt
    (sym (get_or_read s.left.items c.args.v c.index-pins.result.now lt c.index-pins.ensures 0)) (omega arith)

-- the last node of the stack has its count of pins
pub index_mut-requires : goal.index_mut-requires
index_mut-requires c =
    let s = c.args.self.now in
    omega (arith, within_left c.args.network.now s.states.items s.left.items s.stack.items s.order.items c.args.v c.requires.sound c.requires.stacked c.requires.last)
