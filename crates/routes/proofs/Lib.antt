-- Laws of a route's points.
pub mod PointsLaw
