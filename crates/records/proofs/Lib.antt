-- Laws of the two records.
pub mod ConfigLaw
pub mod CallLaw
