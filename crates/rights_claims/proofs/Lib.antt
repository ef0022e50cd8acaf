-- Document 02, K9: what holds of every list of calls by any callers.
pub mod TakenOut
pub mod Claim
pub mod Variants
pub mod Skipper
