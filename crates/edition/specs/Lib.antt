-- What the program edition answers to its input.
pub mod Conversion
pub mod Laws
