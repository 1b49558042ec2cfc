mod Counted
mod Fresh
mod Ends
