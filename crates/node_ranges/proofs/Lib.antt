pub mod CostFacts
pub mod RangeFacts
pub mod RangeLaws
pub mod SumFacts
