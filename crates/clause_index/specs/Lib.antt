pub mod Order
pub mod Runs
pub mod Slots
pub mod Index
