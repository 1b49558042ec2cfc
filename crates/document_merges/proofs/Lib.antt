pub mod Ends
pub mod Found
pub mod Handed
pub mod Kept
pub mod Listing
pub mod Turns
pub mod Documents
