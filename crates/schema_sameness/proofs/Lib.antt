pub mod SameSchemas
pub mod Lists
pub mod Views
