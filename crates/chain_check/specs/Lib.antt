pub mod Marks
pub mod Steps
pub mod ByPlace
pub mod Known
pub mod Rooms
pub mod Aside
