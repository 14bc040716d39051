-- What the read list of any accepted plan and the rebuild by it promise.
pub mod PlanListSays
pub mod RebuildByPlanSays
