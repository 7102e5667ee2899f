pub mod Words
pub mod Spellings
pub mod TraceText
pub mod TraceReading
pub mod CnfText
pub mod CnfReading
pub mod Printed
