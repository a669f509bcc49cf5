pub use Rattle.escrow_units.specs.Flows
pub mod Table
pub mod Summed
pub mod SummedLaws
