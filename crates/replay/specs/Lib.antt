-- Document 01, "Records and desk program": what the contracts of `replay` cite. `Code` has the code's own steps.
pub mod Recording
pub mod Text
pub mod Sizes
pub mod Code
