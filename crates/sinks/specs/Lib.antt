pub mod Lines
pub mod Models
pub mod Pens
pub mod Single
pub mod Theorems
