pub mod DayFacts
pub mod GrowthFacts
pub mod ResidualLaws
pub mod CaseFacts
pub mod HoldingFacts
pub mod PassedFacts
