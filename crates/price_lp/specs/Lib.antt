pub use Rattle.offer_book.specs.Book
pub use Rattle.escrow_units.specs.Calendar
pub use Rattle.fixed_powers.specs.DiscountPowers
pub use Rattle.payment_schedule.specs.Schedule
pub use Rattle.escrow_units.specs.SlgsTerms
pub use Rattle.proof_tree.specs.Tree
pub mod Program
