-- Demand 1 for every call, from the promises alone.
pub mod LimitLaws
pub mod SharedLimits
pub mod CallLimits
pub mod UnitCallLimits
pub mod ImageCallLimits
pub mod Demand1
pub mod SkippedRuns
