pub mod FirstBits
pub mod Places
