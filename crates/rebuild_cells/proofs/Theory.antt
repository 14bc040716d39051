-- Theorems about the mend of cells lost one by one.
pub mod WordLaws
pub mod OddCells
pub mod MendLaws
pub mod LitStripes
pub mod Exact
pub mod Marked
pub mod WholeDisks
pub mod SingleSets
pub mod OneDisk
pub mod TwoRuns
pub mod WordSums
pub mod NearLaws
