-- Document 02, K9: who may do what.
pub mod Rights
