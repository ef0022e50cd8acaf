-- The code's own steps: no document has them, and no entry's contract cites them.
pub mod Performed
pub mod Run
