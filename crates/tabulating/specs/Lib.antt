-- A table of steps made of the tables of a list: what is promised, that it leaves no choice, and what follows.
pub mod Tabulates
pub mod TabulatesLaws
