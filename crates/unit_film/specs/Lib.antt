-- The film of a unit in its order, the promise of the call that hands it out, and the bytes of a
-- set's film in the film of its units.
pub mod FilmOrder
pub mod Says
pub mod FilmInUnits
