pub mod Judging
pub mod Over
pub mod Pens
pub mod Reading
pub mod Writing
pub mod Worked
