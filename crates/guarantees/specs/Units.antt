-- The way of a film through the calls on units.
pub mod FilmWay
