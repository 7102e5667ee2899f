pub mod Branches
pub mod Rooms
