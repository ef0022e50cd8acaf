-- What is wanted of the two editions of the call record, for every value.
pub mod Laws
pub mod Cases
