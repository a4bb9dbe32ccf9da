mod Putting
mod Feeding
mod Streams
