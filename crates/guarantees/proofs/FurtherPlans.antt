-- Theorems about the calls, from their promises alone.
pub mod ListCounts
pub mod Plans
pub mod FewestPlans
pub mod Rebuilds
