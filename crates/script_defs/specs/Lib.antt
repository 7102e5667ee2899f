pub mod Scripts
pub mod Lines
pub mod Commands
pub mod Reading
pub mod Texts
pub mod Transcripts
pub mod Printing
