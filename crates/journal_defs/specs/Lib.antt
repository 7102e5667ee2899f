pub mod Journals
pub mod Legality
pub mod Replies
