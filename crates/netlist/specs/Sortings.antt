-- How far the search for an order has come.
use Rattle.std.specs.Prelude.{◌≡◌, ℕ, ◌+◌, ◌-◌, ◌*◌, ◌<◌, ◌≤◌, ◌⊎◌, Bool, true, false, List, length, sum, count_by, slice_index, slice_index_or, All, Contains}
use Rattle.net_defs.specs.Networks.{Node, Network, node_at, signals}
use Rattle.blif_defs.specs.declared.mark.TheConstants.{MAX_PORTS}
use Rattle.net_defs.specs.Orders.{ComesAfterFanIns}
use Rattle.netlist.specs.declared.order.State.{State}
use Rattle.netlist.specs.declared.order.State.TheVariants.{New, Open, Done}

-- the node wasn't met yet
abbrev pub is_new : State → Bool
is_new New = true
is_new Open = false
is_new Done = false

-- the state of node v
abbrev pub state_at : List State → ℕ → State
state_at states v = slice_index_or states v New

-- signal s is an input or a node that is done
abbrev pub IsReady : Network → List State → ℕ → Type 0
IsReady net states s = (s < length net.inputs) ⊎ (state_at states (s - length net.inputs) ≡ Done)

-- every fan-in of every node is a signal
abbrev pub HasFanInsWithin : Network → Type 0
HasFanInsWithin net =
    (v k : ℕ) → k < length (node_at net v).fan_ins → slice_index (node_at net v).fan_ins k < signals net

-- no node has more fan-ins than a cover may have
abbrev pub HasShortNodes : Network → Type 0
HasShortNodes net = All (λ (node : Node). length node.fan_ins ≤ MAX_PORTS) net.nodes

-- `left` has the pins of each node that are still to be looked at, from the last one on
pub record IsSorting (net : Network) (states : List State) (left stack order : List ℕ) : Type 0 where
  pub all_states : length states ≡ length net.nodes
  pub all_left : length left ≡ length net.nodes
  pub left_within : (v : ℕ) → v < length net.nodes → slice_index left v ≤ length (node_at net v).fan_ins
  pub passed : (v k : ℕ) → v < length net.nodes → slice_index left v ≤ k → k < length (node_at net v).fan_ins
      → IsReady net states (slice_index (node_at net v).fan_ins k)
  pub stack_open : (i : ℕ) → i < length stack → state_at states (slice_index stack i) ≡ Open
  pub stack_distinct : (i j : ℕ) → i < j → j < length stack → slice_index stack i ≡ slice_index stack j → ⊥
  pub open_stacked : (v : ℕ) → state_at states v ≡ Open → Contains stack v
  pub path : (i : ℕ) → i + 1 < length stack
      → Contains (node_at net (slice_index stack i)).fan_ins (length net.inputs + slice_index stack (i + 1))
  pub done_ordered : (v : ℕ) → state_at states v ≡ Done → Contains order v
  pub order_within : All (λ v. v < length net.nodes) order
  pub order_done : All (λ v. state_at states v ≡ Done) order
  pub order_distinct : (i j : ℕ) → i < j → j < length order → slice_index order i ≡ slice_index order j → ⊥
  pub after : ComesAfterFanIns net order
  pub counted : count_by is_new states + length stack + length order ≡ length net.nodes

-- what is left to do
abbrev pub work : List State → List ℕ → List ℕ → ℕ
work states left stack = sum left + 2 * count_by is_new states + length stack

-- nodes that are done stay so
abbrev pub StaysDone : List State → List State → Type 0
StaysDone old new = (v : ℕ) → state_at old v ≡ Done → state_at new v ≡ Done
