pub mod Cases
pub mod ClosedMembers
