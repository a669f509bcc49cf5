pub mod EndFacts
pub mod ZeroYield
pub mod LimitFacts
