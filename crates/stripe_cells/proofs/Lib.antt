-- Laws of a set's cells as a list of offsets: rows and diagonals on some disks, sets without the
-- cells of lost disks, all rows as one run, odd cells, and the loops over the sets.
pub mod OrdinaryLaws
pub mod ColumnLaws
pub mod LoopLaws
pub mod OddLaws
pub mod OrdinaryLists
pub mod OffsetLaws
pub mod KeptLaws
pub mod RunLaws
pub mod SetLists
pub mod AppendedLaws
pub mod PushedLaws
pub mod WritingLaws
pub mod OddPushLaws
pub mod GatherLaws
pub mod SolvedLaws
