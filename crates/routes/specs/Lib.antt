-- Document 02, K2: a route flown.
pub mod Route
