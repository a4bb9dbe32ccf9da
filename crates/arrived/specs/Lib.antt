pub mod ArrivedView
