-- Lists of offsets, the ordinary cells of a set, odd marks, and what the functions over a stripe
-- ask.
pub mod Cells
pub mod Toggled
pub mod Listed
pub mod OrdinaryCells
pub mod Offsets
pub mod Gathered
pub mod OddCells
pub mod SetCells
