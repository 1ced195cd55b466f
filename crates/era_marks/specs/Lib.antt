pub mod Room
pub mod Parts
