-- A call as a host gives it: numbers and flags.
pub mod Call
