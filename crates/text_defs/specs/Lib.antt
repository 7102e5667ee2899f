pub mod Steps
pub mod Memory
pub mod Numbers
pub mod Tokens
