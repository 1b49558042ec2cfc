mod Sums
mod Defined
