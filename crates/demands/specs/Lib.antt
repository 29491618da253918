-- What must be believed of the three demands: each is a predicate over any check and any evaluation.
pub mod Tables
pub mod Resolvents
pub mod Formula
pub mod Refusal
pub mod Acceptance
pub mod Interpolant
pub mod Demands
pub mod Cases
pub mod Wrong
