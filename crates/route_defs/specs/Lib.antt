pub mod Spans
pub mod Signals
pub mod Demands
pub mod Tracks
pub mod Placed
pub mod Routes
