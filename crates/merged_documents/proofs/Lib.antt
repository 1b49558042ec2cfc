pub mod Entries
pub mod Leaves
pub mod Tables
mod Types
mod TenKeywords
pub mod Mergeable
mod Leading
mod RowsAsk
mod RowsFit
pub mod Fit
pub mod Documents
pub mod Deep
mod ShapedRows
mod ShapedFindings
pub mod Shaped
pub mod Composed
