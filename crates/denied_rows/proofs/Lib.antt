pub mod UnderNot
