pub mod CutFacts
pub mod DigitFacts
pub mod NumberFacts
pub mod EightFacts
pub mod LaneFacts
pub mod FrontFacts
