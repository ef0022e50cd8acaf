-- The drawn path for a host.
pub mod Draw
