-- The promise of the rebuild, from one step and from the steps of a plan, into a column or within
-- the stripe.
pub mod OneRefusals
pub mod StepSets
pub mod InPlaceSteps
pub mod FollowLaws
pub mod LostLaws
pub mod OneStep
