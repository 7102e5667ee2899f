pub mod Climbing
pub mod Header
pub mod ReadingSteps
