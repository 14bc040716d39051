-- Theorems about the form of a text, and the loops that read and write it.
pub mod Form
mod ReadLoops
mod FrontLaws
mod LineLaws
mod PlainLoop
mod JudgeTextLaws
mod FileLaws
