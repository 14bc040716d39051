-- Theorems: what every plan asks of a disk, progressions mod a prime, the progression plan, the
-- relief plan, arrays one disk short of full, the balanced plan in part-filled arrays.
pub mod FlagSums
pub mod HalfAsked
pub mod ProgressionLaws
pub mod ProgressionPlan
pub mod ReliefPlan
pub mod RowsTaken
pub mod OneShort
pub mod CutLaws
pub mod BalancedQuiet
