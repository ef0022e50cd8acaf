-- Document 02, K14: records with down positive.
pub mod Edition
pub mod Code
