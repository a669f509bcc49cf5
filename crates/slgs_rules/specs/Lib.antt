pub use Rattle.escrow_units.specs.Calendar
pub use Rattle.escrow_units.specs.SlgsTerms
pub mod Classification
pub mod RuleLaws
pub mod TermRules
