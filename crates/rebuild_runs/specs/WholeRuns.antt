-- Whole rebuild runs: what is claimed of steps and skips one after another.
pub mod EventSeries
