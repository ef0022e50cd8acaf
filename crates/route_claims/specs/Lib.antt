-- Document 02, K2: what is wanted of every list of calls from one loading to the next.
pub mod Flights
pub mod Claim
pub mod Table
