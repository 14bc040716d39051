-- The stripes of a list of files, what an accepted answer means, and the loop over the list.
pub mod FilesLaws
pub mod SpaceLaws
pub mod LeftLaws
