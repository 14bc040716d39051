-- Plans as text: their form, what the readers of a text's front say, and what the calls promise.
pub mod Form
pub mod ReaderSays
pub mod JudgeTextSays
pub mod PlainTextSays
