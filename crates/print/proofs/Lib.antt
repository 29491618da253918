-- The laws of the printing program, for the proofs of its functions and as what it promises.
pub mod DecimalLaws
pub mod TextLaws
pub mod FileLaws
pub mod ReportLaws
pub mod SufficeLaws
pub mod Unique
