pub mod WholeNumbers
pub mod SearchFacts
pub mod ChainFacts
pub mod RootFacts
pub mod PowerFacts
pub mod Sharpness
pub mod PresentValueFacts
