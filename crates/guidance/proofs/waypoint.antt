-- Lemmas of a waypoint's proofs.
mod Finite
