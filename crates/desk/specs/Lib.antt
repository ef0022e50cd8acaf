-- What the contracts of `desk` cite.
pub mod Shown
