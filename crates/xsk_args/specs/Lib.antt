-- The words of a command. To read in this order:
-- Words: how they are cut. Number, Program: what one may be. Meaning: what all mean. For code: Rules.
pub mod Words
pub mod Number
pub mod Program
pub mod Meaning
pub mod Rules
