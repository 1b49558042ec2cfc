mod Behind
mod NativeTypes
mod OddTypes
mod SmallNumbers
mod SmallMembers
mod Copies
mod FoundNames
