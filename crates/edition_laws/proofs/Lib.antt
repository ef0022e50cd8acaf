pub mod EditionBack
pub mod ThereAndBack
pub mod Cases
