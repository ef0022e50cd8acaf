-- Document 01, "Arithmetic, the lowest crate", in its order.
pub mod Constants
pub mod Order
pub mod Root
pub mod Vector
pub mod Trigonometry
pub mod Table
pub mod Values
