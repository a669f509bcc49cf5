pub mod NumberFacts
pub mod CommandLaws
pub mod AskedLaws
pub mod EffectLaws
pub mod StructureLaws
pub mod CappingLaws
pub mod MakingLaws
