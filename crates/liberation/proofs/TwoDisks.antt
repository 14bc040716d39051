-- Theorems about the rebuild of two lost disks: steps that stand, a parity disk with another disk,
-- the rows of the walk and its roles, its start, and what the rebuild does.
pub mod StandTests
pub mod Upward
pub mod ParityPairs
pub mod WalkRows
pub mod Roles
pub mod WalkLaws
pub mod StartLaws
pub mod FirstCell
pub mod Restoring
pub mod PairLaws
