-- What the mend of missing cells means.
pub mod Cells
