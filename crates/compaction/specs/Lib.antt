-- Document 02, K7. `Code` has the code's own steps.
pub mod Compaction
pub mod Laws
pub mod Code
