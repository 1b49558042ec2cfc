mod LeafForm
pub mod NamedForm
mod MadeForm
pub mod Plans
