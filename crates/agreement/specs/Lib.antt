-- Document 02, K13. `Code` has the code's own steps.
pub mod Agreement
pub mod Laws
pub mod Code
