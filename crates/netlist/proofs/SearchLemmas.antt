-- The search for an order: a stack that leads back into itself, and the work that a step takes away.
use Rattle.std.proofs.Common.{◌≡◌, ℕ, ◌+◌, ◌-◌, ◌<◌, ◌≤◌, ⊎_elim, List, [], ◌∷◌, ◌++◌, length, set, get_or, Contains, ap, sym, subst, ◌∙◌, arith}
use Rattle.std.proofs.lemmas.List.{get_or_default, get_or_push}
use Rattle.std.proofs.lemmas.List.Sums.{sum_by-set}
use Rattle.std.proofs.lemmas.Bool.{cases_lt}
use Rattle.net_defs.specs.Networks.{Network, node_at}
use Rattle.net_defs.specs.Settling.{Settled, IsAcyclic}
use Rattle.net_defs.specs.Orders.{IsOrder}
use Rattle.netlist.specs.Sortings.{state_at, StaysDone, IsSorting, work}
use Rattle.netlist.specs.declared.order.State.{State}
use Rattle.netlist.specs.declared.order.State.TheVariants.{New, Open, Done}
use Rattle.netlist.proofs.OrderLemmas.{not_settled, Settled-in_order}
use Rattle.netlist.proofs.StateLemmas.{count_new-done, within_from_open, state_at-set_same, StaysDone-set, not_done_from_new}
use Rattle.netlist.proofs.SortingSteps.{IsSorting-opened}

-- the last open node needs an open node
record LeadsBack (net : Network) (states : List State) (v : ℕ) : Type 0 where
  node : ℕ
  is_open : state_at states node ≡ Open
  needed : Contains (node_at net v).fan_ins (length net.inputs + node)

-- each open node needs an open node
open_needs_open : (net : Network) (states : List State) (left stack order : List ℕ) (v : ℕ)
    → IsSorting net states left stack order → get_or stack (length stack - 1) 0 ≡ v → LeadsBack net states v
    → (u : ℕ) → state_at states u ≡ Open
    → (w : ℕ) × (state_at states w ≡ Open) × Contains (node_at net u).fan_ins (length net.inputs + w)
open_needs_open net states left stack order v h top back u is_open =
    let at = h.open_stacked u is_open in
    let i : ℕ = at.0 in
    let here : get_or stack i 0 ≡ u = get_or_default stack i 0 u at.1 ∙ at.2 in
    ⊎_elim
    (λ inside. let P : ℕ → Type 0 = λ m. Contains (node_at net m).fan_ins (length net.inputs + get_or stack (i + 1) 0) in
    (get_or stack (i + 1) 0, h.stack_open (i + 1) inside, subst P here (h.path i inside)))
    (λ past. let last : i ≡ length stack - 1 = omega (arith, at.1) in
    let same : v ≡ u = sym top ∙ ap (λ m. get_or stack m 0) (sym last) ∙ here in
    let P : ℕ → Type 0 = λ m. Contains (node_at net m).fan_ins (length net.inputs + back.node) in
    (back.node, back.is_open, subst P same back.needed))
    (cases_lt (i + 1) (length stack))

-- the open nodes are never settled, where the pin of the last one leads to an open node
pub open_not_settled : (net : Network) (states : List State) (left stack order : List ℕ) (v p s : ℕ)
    → IsSorting net states left stack order → get_or stack (length stack - 1) 0 ≡ v
    → p < length (node_at net v).fan_ins → get_or (node_at net v).fan_ins p 0 ≡ s → length net.inputs ≤ s
    → state_at states (s - length net.inputs) ≡ Open
    → (k u : ℕ) → state_at states u ≡ Open → Settled net k u → ⊥
open_not_settled net states left stack order v p s h top p_lt at le is_open =
    let e : length net.inputs + (s - length net.inputs) ≡ s = omega arith in
    let back : LeadsBack net states v = record {
      node = s - length net.inputs;
      is_open = is_open;
      needed = (p, p_lt, get_or_default (node_at net v).fan_ins p _ 0 p_lt ∙ at ∙ sym e);
    } in
    not_settled net (λ u. state_at states u ≡ Open) (open_needs_open net states left stack order v h top back)

-- a pin less is to be looked at
pub work_passed : (states : List State) (left stack : List ℕ) (v p : ℕ) → v < length left → get_or left v 0 ≡ p → 0 < p
    → work states (set left v (p - 1)) stack < work states left stack
work_passed states left stack v p lt at some =
    let e = sum_by-set (λ (n : ℕ). n) left v (p - 1) 0 lt in
    omega (arith, e)

-- the last open node has pins
pub within_left : (net : Network) (states : List State) (left stack order : List ℕ) (v : ℕ)
    → IsSorting net states left stack order → 0 < length stack → get_or stack (length stack - 1) 0 ≡ v → v < length left
within_left net states left stack order v h some top =
    let is_open : state_at states v ≡ Open = ap (λ m. state_at states m) (sym top) ∙ h.stack_open (length stack - 1) (omega arith) in
    omega (arith, within_from_open states v is_open, h.all_states, h.all_left)

-- the pin that is looked at needs the node w
pub needed_by_pin : (net : Network) (stack : List ℕ) (v p w i : ℕ) → i + 1 ≡ length stack → get_or stack (length stack - 1) 0 ≡ v
    → p < length (node_at net v).fan_ins → get_or (node_at net v).fan_ins p 0 ≡ length net.inputs + w
    → Contains (node_at net (get_or stack i 0)).fan_ins (length net.inputs + w)
needed_by_pin net stack v p w i i_is top lt at =
    let e : v ≡ get_or stack i 0 = let j : length stack - 1 ≡ i = omega arith in sym top ∙ ap (λ m. get_or stack m 0) j in
    let P : ℕ → Type 0 = λ m. Contains (node_at net m).fan_ins (length net.inputs + w) in
    subst P e (p, lt, get_or_default (node_at net v).fan_ins p (length net.inputs + w) 0 lt ∙ at)

-- the pin before the first of those that were looked at is a pin
pub pin_within : (net : Network) (states : List State) (left stack order : List ℕ) (v pins : ℕ)
    → IsSorting net states left stack order → v < length left → pins ≡ get_or left v pins → (pins ≡ 0 → ⊥)
    → pins - 1 < length (node_at net v).fan_ins
pin_within net states left stack order v pins h lt at some =
    let e : pins ≡ get_or left v 0 = at ∙ get_or_default left v pins 0 lt in
    let le : get_or left v 0 ≤ length (node_at net v).fan_ins = h.left_within v (omega (arith, h.all_left)) in
    omega (arith, e, le, some)

-- what holds once the first node is opened
pub record Begins (net : Network) (old states : List State) (left stack order : List ℕ) (root : ℕ) : Type 0 where
  pub sound : IsSorting net states left stack order
  pub stays : StaysDone old states
  pub bottom : 0 < length stack → get_or stack 0 0 ≡ root
  pub met : state_at states root ≡ New → ⊥

-- the first node that is opened
pub opened_first : (net : Network) (states : List State) (left stack order : List ℕ) (root : ℕ)
    → IsSorting net states left stack order → stack ≡ [] → root < length net.nodes → state_at states root ≡ New
    → Begins net states (set states root Open) left (stack ++ root ∷ []) order root
opened_first net states left stack order root h none lt fresh =
    let in_states : root < length states = omega (arith, h.all_states) in
    let size : length stack ≡ 0 = ap length none in
    let now_open = state_at-set_same states root Open in_states in
    record {
      sound = IsSorting-opened net states left stack order root h lt fresh (λ i e. absurd (omega arith));
      stays = StaysDone-set states root Open (not_done_from_new states root fresh);
      bottom = λ _. get_or_push stack root 0 0 size;
      met = λ e. cc;
    }

-- a node that is done is settled
pub done_settled : (net : Network) (states : List State) (left stack order : List ℕ) (u : ℕ)
    → IsSorting net states left stack order → state_at states u ≡ Done → Settled net (length net.nodes) u
done_settled net states left stack order u h is_done =
    Settled-in_order net order u h.order_within h.after (omega (arith, h.counted)) (h.done_ordered u is_done)

-- once every node is done, the order is one of all nodes, and each node is settled
pub finished : (net : Network) (states : List State) (left stack order : List ℕ)
    → IsSorting net states left stack order → stack ≡ [] → ((u : ℕ) → u < length net.nodes → state_at states u ≡ Done)
    → IsOrder net order × IsAcyclic net
finished net states left stack order h empty all_done =
    let none = count_new-done states (λ u d lt. sym (get_or_default states u New d lt) ∙ all_done u (omega (arith, h.all_states))) in
    let size : length stack ≡ 0 = ap length empty in (
      record {
        nodes = record {
          as_many = omega (arith, h.counted, none, size);
          within = h.order_within;
          distinct = λ i j below lt. h.order_distinct i j below (omega (arith, h.counted, none, size));
          complete = λ u lt. h.done_ordered u (all_done u lt);
        };
        after = h.after;
      },
      λ u lt. done_settled net states left stack order u h (all_done u lt),
    )
