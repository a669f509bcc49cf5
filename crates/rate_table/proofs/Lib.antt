pub mod IndexFacts
pub mod LookupFacts
pub mod OverlapFacts
