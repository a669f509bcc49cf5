pub mod ClosedFacts
mod Count
mod DrainFacts
pub mod EndFacts
pub mod GrowFacts
mod InsideFacts
pub mod LawFacts
pub mod Rising
pub mod Shape
pub mod SpentFacts
pub mod Ways
pub mod ZeroFacts
