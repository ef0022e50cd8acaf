-- Laws about the definitions, for this crate's proofs and for crates above.
pub mod Bank
pub mod Checked
pub mod Idle
pub mod OffLine
pub mod Ordered
pub mod Plus
pub mod Starred
pub mod Steering
pub mod StraightBack
pub mod Validated
pub mod Values
