pub mod Watching
pub mod Stages
pub mod Visits
pub mod Looks
pub mod Loosening
pub mod Releases
pub mod Kept
pub mod Loading
