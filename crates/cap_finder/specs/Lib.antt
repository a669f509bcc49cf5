pub use Rattle.case_file.specs.Case
pub use Rattle.rate_cap.specs.CaseAt
pub use Rattle.rate_cap.specs.Search
pub use Rattle.rate_table.specs.Table
pub mod Ends
pub mod Progress
