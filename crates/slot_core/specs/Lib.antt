pub mod Values
pub mod Entries
pub mod Shares
pub mod Slots
pub mod Tables
pub mod Cycles
