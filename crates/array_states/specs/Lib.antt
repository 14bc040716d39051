-- The states of arrays: lost disks as the bits of a word, a report on one array,
-- what a report on a list promises, and series of reports.
pub mod States
pub mod Series
pub mod Scanning
pub mod Reports
pub mod Lost
pub mod OnePass
