-- Document 01, "Records and desk program": the numbers of a configuration record.
pub mod Numbers
