pub use Rattle.escrow_units.specs.PresentValue
pub mod DiscountPowers
pub mod PowerLaws
pub mod Searches
pub mod PresentValues
