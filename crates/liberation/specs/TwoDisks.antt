-- The rebuild of two lost disks, and its steps as a list.
pub mod Pairs
pub mod PairSteps
