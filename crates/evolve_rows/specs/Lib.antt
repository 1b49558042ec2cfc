pub mod PlaceView
pub mod Asking
pub mod FormView
pub mod Questions
pub mod TurnView
pub mod MarksView
pub mod Found
pub mod Led
