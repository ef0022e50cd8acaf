-- What a host gets of a record that is converted.
pub mod Conversion
