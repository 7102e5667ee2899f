pub mod Acceptance
pub mod Compacting
pub mod Deliveries
pub mod Refusals
