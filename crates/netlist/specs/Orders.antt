-- The order of evaluation that a net keeps, and what a search for one answers.
use Rattle.std.specs.Prelude.{◌≡◌, ℕ, List, Result, Ok, Err, Vec}
use Rattle.std.specs.declared.alloc.Global.{Global}
use Rattle.net_defs.specs.Networks.{Network}
use Rattle.net_defs.specs.Settling.{IsAcyclic}
use Rattle.net_defs.specs.Nets.{IsNet, row_count}
use Rattle.net_defs.specs.NetOf.{IsFirstUnsettled}
use Rattle.net_defs.specs.Orders.{IsOrder}
use Rattle.net_defs.specs.declared.faults.NetError.{NetError}
use Rattle.net_defs.specs.declared.faults.NetError.TheVariants.{Cycle}

-- what a net keeps beside its network: an order, and how many rows there are
pub record IsKept (net : Network) (order : List ℕ) (count : ℕ) : Type 0 where
  pub is_net : IsNet net
  pub is_order : IsOrder net order
  pub rows : count ≡ row_count net

-- an order of an acyclic network, or `Cycle` with the first node that isn't settled
abbrev pub OrderOf : Network → Result (Vec ℕ Global) NetError → Type 0
OrderOf net (Ok order) = IsOrder net order.items × IsAcyclic net
OrderOf net (Err fault) = (v : ℕ) × (fault ≡ Cycle v) × IsFirstUnsettled net v
