pub mod Rooms
pub mod Steps
pub mod Marks
pub mod Parts
pub mod Kept
pub mod LutCells
pub mod Search
pub mod Searches
