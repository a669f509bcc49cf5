pub use Rattle.node_pool.specs.Pool
pub use Rattle.node_ranges.specs.Ranges
pub use Rattle.node_pool.specs.Way
pub mod Best
pub mod Growing
pub mod Laws
pub mod Shows
pub mod Tree
