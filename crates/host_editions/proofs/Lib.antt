-- What the proof of `nuthkolla_convert_record` cites.
pub mod Editions
