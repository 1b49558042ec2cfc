mod Again
pub mod Lines
pub mod Verdicts
pub mod Numbers
pub mod Judged
pub mod SettledNumbers
pub mod Once
pub mod Reported
pub mod Causes
pub mod Calls
pub mod Parted
pub mod Statuses
pub mod Plainly
