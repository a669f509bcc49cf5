pub mod DollarText
pub mod FileBonds
pub mod RangeFacts
pub mod ServiceFacts
