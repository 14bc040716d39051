-- What the planner promises: our plan, its steps and its read list, the balanced, the relief and
-- the fewest plan, and their records of routes and steps.
pub mod PlanSays
pub mod ReadListSays
pub mod StepRecords
pub mod SquareRoutes
pub mod BalancedPlanSays
pub mod ReliefPlanSays
pub mod FewestPlanSays
pub mod BalancedStepsSays
pub mod RouteRecords
pub mod PlanStepsSays
pub mod Route
pub mod Walks
pub mod StepLists
pub mod PlanResults
