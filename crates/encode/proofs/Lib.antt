pub mod Receive
pub mod Spans
pub mod Claims
