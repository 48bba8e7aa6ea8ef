pub mod Reception
pub mod Parts
