-- What the program agree writes.
pub mod Text
