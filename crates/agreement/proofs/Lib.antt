-- Laws of agreement.
pub mod Same
pub mod Parts
pub mod Story
pub mod Meeting
pub mod Whole
pub mod Values
pub mod LawsProof
