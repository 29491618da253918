-- What must be believed of the boundary beyond the two layers: where a record stands in the caller's table.
pub mod Part
