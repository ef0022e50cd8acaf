-- What is wanted of records and recordings, for every value.
pub mod Laws
pub mod Recordings
