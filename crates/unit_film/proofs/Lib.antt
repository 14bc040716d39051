-- Laws of the film's order, of the loop that copies it and of the refusals; and the theorems.
pub mod JoinLaws
pub mod OrderLaws
pub mod CopyLaws
pub mod FilmRefusals
pub mod NoWrongFilm
pub mod Sealed
pub mod FilmInUnitsLaws
