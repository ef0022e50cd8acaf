-- What the proof of `nuthkolla_run` cites.
pub mod Kept
