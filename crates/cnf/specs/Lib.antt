pub mod Clauses
pub mod Questions
pub mod Refusals
pub mod Sinks
pub mod Layers
