pub mod CapFacts
pub mod CaseFacts
pub mod EndFacts
pub mod RateFacts
pub mod RuleFacts
pub mod SearchFacts
