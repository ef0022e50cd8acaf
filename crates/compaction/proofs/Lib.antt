-- Laws of compaction.
pub mod Bytes
pub mod Reading
pub mod Judging
pub mod Closing
pub mod Again
pub mod Short
pub mod LawsProof
pub mod Deciding
