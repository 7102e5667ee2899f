pub mod Words
pub mod Lines
pub mod Values
pub mod Drafts
pub mod Rows
pub mod Grammar
pub mod Texts
pub mod Printing
