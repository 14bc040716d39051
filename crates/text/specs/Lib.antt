-- Numbers and the fields of a step as text.
pub mod Digits
pub mod Fields
