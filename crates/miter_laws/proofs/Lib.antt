pub mod Membership
pub mod Places
pub mod Truth
pub mod Tables
pub mod Assignment
pub mod Circuits
pub mod Extension
pub mod Ranges
