-- Laws of converting records one behind the other.
pub mod Reading
pub mod Law
pub mod FileLaw
pub mod Told
pub mod LawsProof
