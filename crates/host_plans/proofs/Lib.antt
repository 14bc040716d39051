-- The promises of the read list of any accepted plan and of the rebuild by it, and its steps from
-- its bytes.
pub mod PlanListLaws
pub mod FillLaws
pub mod ByPlanLaws
