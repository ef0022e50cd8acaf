-- Laws of the desk program.
pub mod Law
