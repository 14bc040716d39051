-- Quotients rounded up, groups and what lies in them, the bounds that keep every sum from wrapping,
-- the film on its cells, refusals; last what holds of every accepted layout.
pub mod UpLaws
pub mod GroupLaws
pub mod CellPlaces
pub mod BlockPlaces
pub mod SmallLaws
pub mod PlaceSums
pub mod FilmLaws
pub mod LimitLaws
pub mod PieceLaws
pub mod ImageLaws
pub mod AnswerPlaces
