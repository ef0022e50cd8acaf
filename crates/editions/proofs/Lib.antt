pub mod FlipLaw
pub mod Loops
pub mod Reading
pub mod Writing
