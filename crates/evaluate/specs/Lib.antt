pub mod Letters
pub mod Bits
pub mod Lines
pub mod Truths
