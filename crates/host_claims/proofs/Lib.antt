-- Demand 3 through `nuthkolla_run`; demand 3, K2 and K9 through every function that takes a caller.
pub mod Told
pub mod HostDemand3
pub mod HostRights
pub mod HostRoutes
pub mod RoutesVariants
pub mod HostRefused
pub mod HostWhole
mod WholeVariants
pub mod Skipper
