pub mod Distinct
pub mod Filled
mod Middle
mod Parts
pub mod Reach
