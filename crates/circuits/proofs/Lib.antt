-- The laws of the gate layer, for the crates above and for the proofs of its functions.
pub mod GateLaws
pub mod ValueLaws
pub mod BuildLaws
pub mod CircuitLaws
pub mod SoundLaws
pub mod InterpolantLaws
pub mod VariableLaws
pub mod EvaluateLaws
pub mod EvaluateInsideLaws
pub mod CheckLaws
pub mod InsideLaws
pub mod Unique
