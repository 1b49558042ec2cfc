pub mod Exactly
pub mod Refusing
pub mod Naming
pub mod Dividing
pub mod Putting
pub mod Rowing
pub mod Walks
