pub mod DateFacts
pub mod LengthFacts
pub mod RowFacts
