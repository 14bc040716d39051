-- Theorems: the disk that explains a stripe, the equations of the other disks' cells, the verdict.
pub mod Explaining
pub mod EquationCells
pub mod EquationLaws
pub mod Verdicts
