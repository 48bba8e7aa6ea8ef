pub mod Accepting
pub mod Folds
