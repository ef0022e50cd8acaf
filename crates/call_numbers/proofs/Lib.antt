-- What the proof of `call_of` cites.
pub mod ByKind
