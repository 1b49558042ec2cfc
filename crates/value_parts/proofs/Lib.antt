pub mod Listed
pub mod TypedViews
pub mod Turns
pub mod Behind
pub mod EntryTurns
pub mod FirstOfName
pub mod IntoSlots
pub mod AbsentValues
