-- A record's call as one of demand 3's calls.
pub mod Calls
