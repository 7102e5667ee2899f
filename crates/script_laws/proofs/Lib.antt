pub mod Following
pub mod Reading
pub mod Commands
pub mod Drafts
