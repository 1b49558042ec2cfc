pub mod Joined
pub mod Written
pub mod PrintedParts
pub mod FromPrinted
