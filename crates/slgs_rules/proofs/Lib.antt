pub mod ClassificationFacts
pub mod RuleFacts
