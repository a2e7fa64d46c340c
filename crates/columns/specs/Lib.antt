-- Which bytes share a column: what it is that leaves take two bytes alike, in a tree, in its pieces and in their
-- table, and how the bytes are parted leaf by leaf. In the order of reading.
pub mod Alike
pub mod AlikeInTrees
pub mod AlikeInPieces
pub mod AlikeInTable
pub mod Parting
pub mod PartingLaws
pub mod ColumnNumbering
pub mod ColumnNumberingLaws
