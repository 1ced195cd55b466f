pub mod BenchSteps
pub mod BenchStart
