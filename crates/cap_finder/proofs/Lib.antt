pub mod ProgressFacts
pub mod ToldFacts
