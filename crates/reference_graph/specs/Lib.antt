pub mod Graph
pub mod Trail
pub mod Ranking
pub mod Laws
