-- What follows of lists that are changed element by element.
pub mod Walks
pub mod Ascent
