-- What a refusal comes to as numbers.
pub mod Numbers
