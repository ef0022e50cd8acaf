-- What the contracts of `compact` cite.
pub mod Output
