-- The laws of the two records, and of whole recordings.
pub mod ConfigBack
pub mod CallBack
pub mod RecordingBack
