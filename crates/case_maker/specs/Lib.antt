pub use Rattle.escrow_units.specs.Calendar
pub use Rattle.escrow_units.specs.DateText
pub use Rattle.escrow_units.specs.Digits
pub mod Draws
pub mod Files
pub mod Made
