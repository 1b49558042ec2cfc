pub mod Objects
pub mod PlainRows
pub mod Seen
pub mod Types
pub mod LessNulls
pub mod KindsSeen
