mod Advances
mod Feeding
