-- What a host gets of two recordings.
pub mod Agreed
