pub mod WayView
pub mod Answer
