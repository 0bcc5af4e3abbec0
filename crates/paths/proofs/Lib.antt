-- What is proved of the paths and the walk.

pub mod Marks
pub mod Walks
pub mod Inside
