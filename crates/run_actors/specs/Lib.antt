pub mod Loading
pub mod Steps
pub mod Progress
