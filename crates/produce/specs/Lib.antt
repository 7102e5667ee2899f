pub mod Endings
pub mod Learning
pub mod Differences
pub mod Bundling
