-- The way of a film through the calls on units.
pub mod Together
pub mod FilmWay
