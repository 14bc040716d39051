-- Laws of plans as they are made: routes, steps in a record, reads counted, read lists, the
-- balanced, the relief and the fewest plan, and what the planner's answers mean.
pub mod MarkingLoop
pub mod PlanAnswers
pub mod FormLaws
pub mod PlanMeans
pub mod ProgressionSteps
pub mod ReadListMeans
pub mod ListAnswers
pub mod StepRecord
pub mod HeldLaws
pub mod SquareSteps
pub mod ReliefLaws
pub mod BalancedLaws
pub mod RelievedSteps
pub mod FewestLaws
pub mod RouteLaws
pub mod PlannedLaws
pub mod WalkLaws
