-- Laws of the states of arrays: the bits of a word of lost disks, a report on one array, a list and
-- its totals, a report on an array of it, and series of reports.
pub mod StateLaws
pub mod Series
pub mod TotalLaws
pub mod LostLaws
pub mod RestLaws
pub mod ReportLaws
pub mod CountLaws
pub mod ScanLaws
pub mod RecordLaws
