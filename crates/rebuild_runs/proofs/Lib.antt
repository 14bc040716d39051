-- What calls on a run leave that are not refused, and whole runs.
pub mod RunRefusals
pub mod WholeRuns
pub mod ProgressLaws
pub mod StepRefusals
