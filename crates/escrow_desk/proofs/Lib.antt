pub mod CallFacts
pub mod ContentFacts
pub mod CountFacts
pub mod FilesFacts
pub mod PartFacts
pub mod RecordFacts
