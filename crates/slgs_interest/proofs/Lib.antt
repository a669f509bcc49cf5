pub mod Amounts
pub mod LeapDays
pub mod PaymentFacts
pub mod Series
