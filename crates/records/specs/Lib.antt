-- Document 01, "Records and desk program": the configuration record and the call record. `Code` has the code's own steps.
pub mod Config
pub mod Call
pub mod Code
