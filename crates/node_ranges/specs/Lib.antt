pub use Rattle.offer_book.specs.Book
pub use Rattle.offer_book.specs.Sums
pub mod Claims
pub mod Depths
pub mod Ranges
