pub mod WordBytes
pub mod PrintedWords
pub mod PrintedTraces
pub mod TextLengths
pub mod NoComments
pub mod PrintedHeader
pub mod PrintedCnfs
