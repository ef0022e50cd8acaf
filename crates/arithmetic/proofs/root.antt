-- Lemmas of the root's proof.
mod Squares
mod Rounded
pub mod Patterns
mod Whole
mod Operation
mod Law
