pub use Rattle.offer_book.specs.CaseBook
pub use Rattle.node_ranges.specs.Ranges
pub use Rattle.proof_tree.specs.Tree
pub mod Halving
pub mod Base
