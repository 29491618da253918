-- The laws of the boundary.
pub mod PartLaws
pub mod Unique
