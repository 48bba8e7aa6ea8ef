pub mod Split
pub mod Left
pub mod Laws
