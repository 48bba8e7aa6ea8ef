pub mod Refusals
pub mod Scripts
pub mod Files
pub mod Cut
pub mod Same
