-- Theorems about the rebuild of two lost disks from sums of surviving cells.
pub mod Adding
pub mod Summing
pub mod SumsStand
