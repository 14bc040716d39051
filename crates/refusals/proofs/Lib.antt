-- Promises from what was refused or done, and what the refusals of a call on a stripe leave.
pub mod AnswerLaws
pub mod StripeRefusals
pub mod WithinLimits
pub mod RefusalNumbers
