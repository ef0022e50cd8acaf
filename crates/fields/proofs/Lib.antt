-- Laws of fields, for the proofs of this crate and of those above.
pub mod NumberLaw
pub mod MapLaw
pub mod FieldLaw
pub mod FloatLaw
pub mod GroupLaw
pub mod WriteLaw
pub mod RecordLaw
pub mod LawsProof
pub mod Window
