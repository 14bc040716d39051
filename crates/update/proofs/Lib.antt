-- The update in place, and the promise from what was refused or done.
pub mod PutLaws
pub mod UpdateRefusals
pub mod FromCell
pub mod CellPlaces
