pub mod Places
pub mod Meanings
pub mod Legality
pub mod OneLane
