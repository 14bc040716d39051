-- What the judge of a plan promises, and the judge of its steps.
pub mod JudgeSays
pub mod JudgeStepsSays
pub mod Steps
pub mod Verdicts
