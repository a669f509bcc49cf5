pub use Rattle.escrow_units.specs.DateText
pub use Rattle.escrow_units.specs.Denomination
pub mod RowForm
