-- What must be believed of the gate layer: document 01's sentences on references, gates, partial interpolants, the check and the evaluation, as definitions that compute.
pub mod Reference
pub mod Gate
pub mod Rule
pub mod Build
pub mod Value
pub mod Check
pub mod Malformed
pub mod Evaluate
pub mod Inside
pub mod EvaluateInside
