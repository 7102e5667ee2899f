pub mod Placings
