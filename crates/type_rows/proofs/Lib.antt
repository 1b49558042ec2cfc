pub mod Constants
pub mod SeveralTypes
