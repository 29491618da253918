-- The laws of the step layer, for the crates above, and the proofs of its functions.
pub mod NumberLaws
pub mod NamedLaws
pub mod BitLaws
pub mod ListLaws
pub mod ClauseLaws
pub mod StepLaws
pub mod TableLaws
pub mod TestLaws
pub mod DerivationLaws
pub mod InsideLaws
pub mod WorkLaws
pub mod MeaningLaws
pub mod AcceptanceLaws
pub mod RefusalLaws
pub mod Unique
