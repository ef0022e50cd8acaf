-- Laws about the definitions that the contracts name, for this crate and those above it.
pub mod Bounds
pub mod Within
pub mod Arctangent
mod Remainder
pub mod Rounding
pub mod Signs
pub mod Sums
pub mod Values
