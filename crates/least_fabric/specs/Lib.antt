pub mod LeastFabrics
