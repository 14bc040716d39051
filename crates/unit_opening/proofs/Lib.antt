-- Laws of marks and of opening, and the theorems.
pub mod MarkLaws
pub mod OpenLaws
pub mod BroughtBack
pub mod NothingWritten
