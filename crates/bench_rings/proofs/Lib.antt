mod Legality
mod Loops
