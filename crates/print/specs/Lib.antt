-- What must be believed of the printing program: document 01's sentences on what it reads and prints, as definitions that compute.
pub mod Decimal
pub mod Line
pub mod File
pub mod Report
