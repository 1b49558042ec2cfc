mod Leads
pub mod Levels
pub mod Lists
pub mod Chosen
pub mod Members
pub mod Numbers
pub mod Walks
