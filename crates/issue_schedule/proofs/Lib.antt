pub mod BondFacts
pub mod DayFacts
pub mod InterestFacts
pub mod NeedFacts
pub mod PaymentFacts
pub mod FileFacts
