use Rattle.std.proofs.Common.{◌≡◌, ℕ, ◌<◌, ◌∙◌, sym, ap, subst, rules, List, length, get_or, false}
use Rattle.netlist.specs.Sortings.{state_at}
use Rattle.netlist.specs.declared.order.State.TheVariants.{Open}
use Rattle.netlist.proofs.SearchLemmas.{opened_first}
use Rattle.netlist.proofs.order.Sorting.settle.Goals as goal

-- the stack begins with the root alone
pub loop-v-init : goal.loop-v-init
loop-v-init c =
    let s = c.args.self.now in
    let e = c.in_ok-open.ensures in
    let fresh = c.is_new.ensures.new (search rules) in
    let b = opened_first c.args.network.now s.states.items s.left.items s.stack.items s.order.items c.args.root c.requires.sound c.requires.empty c.requires.within fresh in
    rw (e.states, e.left, e.stack, e.order) record { sound = b.sound; stays = b.stays; bottom = b.bottom; met = b.met }

-- the root is open where the search met the stack again
pub returns-then-not-branch-clause-unsettled : goal.returns-then-not-branch-clause-unsettled
returns-then-not-branch-clause-unsettled c = λ _ k settled.
    let found : c.in_ok-advance.field-0 ≡ false = search rules in
    let old = c.loop-v.self in
    let new = c.advance.new.self in
    let some : 0 < length old.stack.items = search rules in
    let same = c.in_ok-advance.ensures.stack found in
    let first : get_or new.stack.items 0 0 ≡ c.args.root = ap (λ m. get_or m 0 0) same ∙ c.loop-v.invariant.bottom some in
    let some2 : 0 < length new.stack.items = let P : List ℕ → Type 0 = λ m. 0 < length m in subst P (sym same) some in
    let is_open : state_at new.states.items c.args.root ≡ Open = ap (λ m. state_at new.states.items m) (sym first) ∙ c.in_ok-advance.ensures.sound.stack_open 0 some2 in
    c.in_ok-advance.ensures.cycle found k c.args.root is_open settled
