-- Theorems: where a row of numbers is greatest, what progression plans relieve, arrays with 2 data
-- disks, the fewest plan.
pub mod GreatestLaws
pub mod RelievedLaws
pub mod TwoDataDisks
pub mod FewestPlan
