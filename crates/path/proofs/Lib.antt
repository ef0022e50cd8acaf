-- The loop's invariant, what a step keeps, and the laws of drawn paths.
mod Drawing
pub mod PathLaws
mod StepKept
