pub mod Lines
pub mod Places
pub mod Fabrics
pub mod Reading
pub mod Printing
