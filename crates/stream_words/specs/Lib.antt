pub mod FlagWords
pub mod CommandLine
pub mod Asked
