-- Whole rebuild runs, from the promises of the calls, also of those that were open before records
-- had today's fields.
pub mod EventLaws
pub mod MadeLaws
pub mod ResumeLaws
