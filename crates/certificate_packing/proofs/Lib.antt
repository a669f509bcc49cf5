pub mod PackFacts
pub mod PackedOfFacts
pub mod FormFacts
