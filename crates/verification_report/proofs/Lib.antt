pub mod BoughtFacts
