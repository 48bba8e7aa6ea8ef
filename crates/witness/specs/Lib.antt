pub mod Refusals
pub mod Areas
pub mod Blocks
pub mod Fills
pub mod Shown
pub mod Trips
