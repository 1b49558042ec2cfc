mod Entered
mod Members
mod Gathered
mod Tagged
mod Lengths
mod Defined
