pub mod RateFacts
pub mod SumFacts
pub mod Uniqueness
pub mod TableFacts
