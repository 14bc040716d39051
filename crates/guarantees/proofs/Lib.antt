-- Theorems about the calls, from their promises alone.
pub mod Plans
pub mod Stripes
pub mod Pairs
pub mod Runs
pub mod Scrubs
pub mod Tested
pub mod Cells
pub mod FurtherPlans
pub mod Limits
pub mod ParityServer
pub mod Texts
pub mod Units
pub mod Updates
