pub mod AskView
