-- Laws of the lines, for the proofs of this crate and of those above.
pub mod PutLaw
pub mod DigitLaw
pub mod TextLaw
