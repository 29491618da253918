-- The proofs of the three demands.
pub mod PassLaws
pub mod ResolventLaws
pub mod RefusalLaws
pub mod FormulaLaws
pub mod AcceptanceLaws
pub mod InterpolantLaws
pub mod DemandLaws
pub mod Determined
pub mod CaseLaws
pub mod Refutations
