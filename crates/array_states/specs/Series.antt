-- Reports on a list of arrays: what is claimed of one and of any series.
pub mod ReportSeries
