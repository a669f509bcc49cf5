pub mod AsideFacts
pub mod PayerFacts
pub mod SweepFacts
pub mod TableFacts
