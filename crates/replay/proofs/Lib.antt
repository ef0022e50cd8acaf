-- Laws of the replay.
pub mod RunLaw
pub mod PrintLaw
pub mod TextLaw
pub mod Window
pub mod Cut
