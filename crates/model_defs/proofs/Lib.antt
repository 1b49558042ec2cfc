pub mod Rising
pub mod Flat
pub mod FlatSettled
pub mod FlatRefusals
pub mod Rows
pub mod Reach
pub mod ItemRows
pub mod SettledRows
