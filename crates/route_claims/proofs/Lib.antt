-- The claims about lists of calls under a route.
pub mod Flown
pub mod Loaded
pub mod Table
