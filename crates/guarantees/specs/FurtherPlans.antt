-- What the theorems count.
pub mod Counts
