pub mod Lengths
pub mod RunShown
pub mod Verdicts
