pub mod DemandLemmas
pub mod WritingLemmas
pub mod RoutingLemmas
pub mod PlanLemmas
