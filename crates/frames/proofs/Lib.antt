pub mod Framing
pub mod Sealing
pub mod Calling
pub mod Spelling
