pub mod AmountFacts
pub mod FlowFacts
pub mod SeriesFacts
pub mod TestTerms
