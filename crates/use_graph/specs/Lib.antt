pub mod Graph
pub mod Ends
pub mod Followed
pub mod Certificate
pub mod Table
pub mod Laws
