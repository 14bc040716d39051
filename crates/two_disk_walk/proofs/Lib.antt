-- The walk over two lost data disks: numbers of rows, its first cell, its steps one after another,
-- and the sums that it starts from and adds to in the end.
pub mod LostDisks
pub mod SumLoops
pub mod SumLists
pub mod AddLoops
pub mod NumberLaws
pub mod ToggleLaws
pub mod StartLaws
pub mod StartCells
pub mod WalkLaws
pub mod WalkClauses
pub mod LostLists
