-- Answers as numbers: of a call on a guidance, and of a writer.
pub mod Answer
pub mod Place
