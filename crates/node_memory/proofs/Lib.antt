mod AtHand
mod Handing
mod Dues
mod Installs
mod Pops
mod Choices
mod Searching
