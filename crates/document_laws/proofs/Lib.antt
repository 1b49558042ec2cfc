pub mod Rising
pub mod Apart
pub mod NamesRead
pub mod Proper
