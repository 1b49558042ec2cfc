pub mod Named
pub mod Child
pub mod Way
pub mod Round
