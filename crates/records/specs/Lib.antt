-- What must be believed of the step layer: document 01's sentences on clause records, steps and derivations, as definitions that compute.
pub mod Bits
pub mod Lists
pub mod Clause
pub mod Table
pub mod Step
pub mod Tests
pub mod Refusal
pub mod Derivation
pub mod Meaning
pub mod Inside
