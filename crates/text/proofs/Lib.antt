-- Laws of digits, of fields, of the buffer and of comparing.
pub mod DigitLaws
pub mod FieldLaws
pub mod CompareLaws
mod BufferLaws
