pub mod Predicates
pub mod PredicateExamples
pub mod TextSpelling
pub mod PredicatesAside
pub mod RoundTrip
pub mod Kinds
pub mod TextExamples
