mod Ported
mod Reading
mod Saying
mod Taking
