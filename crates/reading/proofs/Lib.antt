-- Laws of reading.
pub mod Law
