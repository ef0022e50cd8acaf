-- Document 02, K9: what holds of every list of calls by any callers.
pub mod Runs
pub mod Sent
pub mod Claim
pub mod Skipper
