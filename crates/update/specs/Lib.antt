-- What the update of a cell promises.
pub mod Says
pub mod Cells
pub mod Targets
