-- Document 01, "Helpers, configuration", "L1 laws" and "Energy law and fallback". `Code` has the code's own steps.
pub mod Math
pub mod Types
pub mod Config
pub mod Navigation
pub mod Code
pub mod Tecs
pub mod Starred
pub mod Values
