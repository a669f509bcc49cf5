mod BestFacts
mod EndFacts
mod EndPlans
pub mod FoundFacts
mod GapFacts
mod GrowthFacts
mod NoneFacts
mod OutcomeFacts
mod PartFacts
pub mod PlanBuys
mod ResultFacts
mod SpentFacts
mod TakeFacts
