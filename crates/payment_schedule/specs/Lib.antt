pub use Rattle.escrow_units.specs.OpenDays
pub mod Schedule
