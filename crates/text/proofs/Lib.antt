pub mod Splits
pub mod Pieces
