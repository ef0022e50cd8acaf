-- Laws of the route record.
pub mod NumbersLaw
pub mod MapsLaw
pub mod RecordLaw
pub mod RouteBack
pub mod Older
