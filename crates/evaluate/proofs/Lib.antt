pub mod Ranges
pub mod Rounds
pub mod Duals
pub mod Lifts
pub mod Cells
pub mod Tables
