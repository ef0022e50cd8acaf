-- Demand 3 about lists of what a host hands to `nuthkolla_run`; demand 3, K2 and K9 about lists of what it hands to the functions that take a caller.
pub mod Inputs
pub mod Demand3
pub mod Rights
pub mod Routes
pub mod Whole
pub mod Skipper
