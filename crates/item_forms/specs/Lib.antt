pub mod TypeForm
pub mod FieldTests
pub mod VariantTests
pub mod Counts
pub mod ListTests
pub mod ContainerTests
