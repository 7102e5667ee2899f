pub mod Values
pub mod Histories
pub mod Places
pub mod Stills
pub mod Answers
pub mod Changes
pub mod Publishing
pub mod Rule
