-- Document 01, "Records and desk program": what all records have in common.
pub mod Bytes
pub mod Numbers
pub mod Fields
pub mod Writing
pub mod Laws
