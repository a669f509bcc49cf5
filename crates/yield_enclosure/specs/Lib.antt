pub use Rattle.fixed_powers.specs.DiscountPowers
pub use Rattle.escrow_units.specs.Flows
pub use Rattle.escrow_units.specs.PresentValue
pub use Rattle.fixed_powers.specs.PresentValues
pub mod YieldAnswers
pub mod YieldLaws
