pub mod MiterWords
pub mod PrintedLengths
pub mod TraceLengths
pub mod BundleLengths
