mod Read
mod Modelled
mod Lengths
mod Plainly
