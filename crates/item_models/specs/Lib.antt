pub mod Places
pub mod PlaceView
