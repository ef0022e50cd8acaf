-- Document 01, "Guidance": lists of calls on a guidance, and demand 3 about them; document 02's K8 and K11: their settings; K5: the roll at a tie.
pub mod Calls
pub mod Limits
pub mod Clamps
pub mod Demand3
pub mod Validity
pub mod Undone
pub mod StallGuard
pub mod StraightBack
pub mod Struck
