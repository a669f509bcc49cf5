pub mod BookFacts
pub mod CoefficientBounds
pub mod CoefficientFacts
pub mod LineFacts
pub mod MarketFacts
pub mod OfferFacts
pub mod ScheduleFacts
pub mod SumFacts
