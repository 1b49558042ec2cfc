pub mod Tables
pub mod Told
pub mod Unread
pub mod Keeping
pub use Rattle.document_merges.specs.Merges
pub mod UnreadExamples
