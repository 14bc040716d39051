-- Laws of the printed plan.
pub mod TextLaws
pub mod PrintedLaws
pub mod FormLaws
pub mod InputLaws
mod LineLaws
pub mod TextAnswers
