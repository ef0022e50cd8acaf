-- Document 01, "Guidance": the calls on a guidance.
pub mod Plane
pub mod Promises
