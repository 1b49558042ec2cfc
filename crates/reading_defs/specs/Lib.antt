pub mod Reading
pub mod Proper
pub mod Laws
