pub mod ValueAt
pub mod Laws
pub mod WideNumbers
pub mod Examples
pub mod FaultPlaces
