-- Document 02, K2 and K10: the route record.
pub mod Record
pub mod Older
pub mod Laws
