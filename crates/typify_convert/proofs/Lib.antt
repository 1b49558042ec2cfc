pub mod Planned
pub mod Taken
pub mod Standing
pub mod Holding
pub mod Told
pub mod Refusals
pub mod Coming
pub mod Plainly
