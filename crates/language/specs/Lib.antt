-- What the matcher is measured against: trees, their language, the automaton of Bille's paper (docs/REFERENCE.md,
-- section 11), and the same automaton cut into pieces.
pub mod Tree
pub mod Meaning
pub mod Language
pub mod SignedTree
pub mod StandsFor
pub mod PlacedTree
pub mod PlacedStandsFor
pub mod EachPlace
pub mod JoinedTexts
pub mod CountedTexts
pub mod PlainSigns
pub mod WithLeaves
pub mod SignedSize
pub mod Automaton
pub mod Nested
pub mod Simulation
pub mod Settled
pub mod StateWalk
pub mod TwoWalks
pub mod Copies
pub mod Same
pub mod SameEmpty
pub mod Models
pub mod TakenAsOne
pub mod TakenAsOneLaws
