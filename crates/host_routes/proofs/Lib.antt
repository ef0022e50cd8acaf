-- What the proof of `nuthkolla_run_route` cites.
pub mod RouteKept
