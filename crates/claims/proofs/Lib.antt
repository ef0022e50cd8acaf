-- Demand 3's proof, and what crates above cite of it.
pub mod Performed
pub mod Alike
pub mod Strike
pub mod Limited
pub mod Runs
pub mod Demand3
pub mod Validity
pub mod Undone
mod Spans
pub mod Clamps
pub mod StallGuard
pub mod Capture
pub mod StraightBack
pub mod Struck
mod Variants
mod GuardVariants
mod TieVariants
