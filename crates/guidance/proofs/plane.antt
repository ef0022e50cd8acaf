-- Lemmas of the calls' proofs, and for callers that take a guidance over.
mod Contracts
pub mod Kept
