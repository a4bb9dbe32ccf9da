mod Moves
mod Nodes
