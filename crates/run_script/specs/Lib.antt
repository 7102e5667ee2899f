pub mod Views
pub mod Files
pub mod Readers
pub mod Replies
