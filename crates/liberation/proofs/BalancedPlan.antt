-- Theorems: squares mod a prime, the balanced plan.
pub mod SquareLaws
pub mod SquareCounts
pub mod Shares
pub mod LoneLaws
pub mod RouteShares
pub mod BalancedPlan
pub mod BalancedShares
