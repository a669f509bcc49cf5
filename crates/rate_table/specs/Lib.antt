pub use Rattle.escrow_units.specs.DateText
pub use Rattle.escrow_units.specs.Denomination
pub use Rattle.row_fields.specs.RowForm
pub mod RangeIndex
pub mod RateForm
pub mod Table
pub mod RateRows
