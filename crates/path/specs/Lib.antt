-- The drawn path: the model step by step, the path that it gives, and what is claimed of it.
pub mod Model
pub mod Path
pub mod Laws
