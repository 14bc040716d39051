-- The refusals, the promise from what was refused or done, the theory of missing cells, and the
-- loops over marks, words and rows.
pub mod MendRefusals
pub mod Theory
pub mod NamedLaws
pub mod NumberedLaws
pub mod MarkLoops
pub mod WordLoops
pub mod RowLoops
pub mod RunLaws
pub mod WholeLaws
pub mod NearestLoops
pub mod NearestTurns
pub mod SetSteps
pub mod ToggleLoops
pub mod RowListLaws
