pub mod Constants
