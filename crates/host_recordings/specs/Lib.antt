-- What a host gets of a recording.
pub mod Compaction
