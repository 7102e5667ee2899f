pub mod FileNames
pub mod Usables
pub mod UsableNets
