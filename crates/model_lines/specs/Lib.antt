pub mod Words
pub mod Answers
pub mod Outcome
pub mod Printing
pub mod Going
pub mod Promises
