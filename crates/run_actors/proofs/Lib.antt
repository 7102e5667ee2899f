pub mod Replies
pub mod Growth
pub mod Steps
pub mod Files
pub mod Answering
pub mod Listing
