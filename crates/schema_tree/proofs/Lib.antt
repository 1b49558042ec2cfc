pub mod KeptNames
pub mod NoFloat
pub mod WidePlaces
pub mod FirstPlaces
pub mod Settings
pub mod WideValues
