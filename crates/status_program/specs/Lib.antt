-- What the program tells of a folder.
pub mod StatusWords
pub mod Told
