-- One report, and any series of them.
pub mod OneReport
pub mod ManyReports
