mod Always
mod KeptLayers
mod KeptWalks
mod Names
mod KeptLists
mod KeptNamed
pub mod KeptProper
pub mod KeptEnds
mod FitParts
mod Throughout
mod Standings
mod Layer
pub mod Clean
pub mod Targets
pub mod Merging
pub mod Agreeing
mod Notes
pub mod FineTrees
pub mod Conversion
mod SameEntries
pub mod MoreLevels
pub mod DocumentLevels
mod Ordered
