pub use Rattle.node_ranges.specs.Ranges
pub mod Heap
pub mod Pool
pub mod Queue
pub mod Tree
pub mod Way
