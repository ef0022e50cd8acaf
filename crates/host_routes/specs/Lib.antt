-- Routes for a host.
pub mod Route
