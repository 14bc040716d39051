-- Marks of the cells that sets hold.
pub mod CellsLeft
pub mod Marks
pub mod ParitySets
