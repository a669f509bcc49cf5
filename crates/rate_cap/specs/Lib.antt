pub use Rattle.offer_book.specs.Book
pub use Rattle.case_file.specs.Case
pub use Rattle.rate_table.specs.Table
pub mod CaseAt
pub mod Halving
pub mod Search
