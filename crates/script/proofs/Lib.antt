pub mod LineByLine
pub mod Making
pub mod Filing
pub mod Counting
pub mod Cutting
pub mod Sameness
