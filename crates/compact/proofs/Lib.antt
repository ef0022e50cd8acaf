-- Laws of the program compact.
pub mod Law
