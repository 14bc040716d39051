-- The record of a run: how it is opened, moved on by a step or a skip, and read; and whole runs.
pub mod Runs
pub mod WholeRuns
pub mod Starts
pub mod ProgressSays
pub mod StepSays
