-- The bands of a bill, their bounds, the bytes of a run, and what an accepted bill
-- means.
pub mod BillLaws
pub mod RunLaws
pub mod MeansLaws
pub mod CentsLaws
