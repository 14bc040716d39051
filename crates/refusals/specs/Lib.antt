-- What an answer says of a refusal, and the refusals of a call on a stripe.
pub mod Answers
pub mod Refused
pub mod StripeOf
pub mod StripeSays
