pub mod Carried
pub mod Made
pub mod Walked
pub mod Told
pub mod Samples
pub mod Examples
pub mod AlikeExamples
