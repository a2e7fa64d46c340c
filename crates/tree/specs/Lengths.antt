-- How long the lists of a tree are: one label and one record for each node.
use Rattle.std.specs.Prelude.{ℕ, ◌+◌, ◌*◌, ◌≤◌, ◌≡◌, refl, List, [], ◌∷◌, ◌++◌, length}
use Rattle.std.proofs.Common.{arith, length-append}
use Rattle.language.specs.Tree.{Tree, leaf, catenation, union, star, nodes}
use Rattle.tree.specs.Leaf.{Leaf}
use Rattle.tree.specs.Cut.{wanted}
use Rattle.tree.specs.Layout.{record_size}
use Rattle.tree.specs.Numbering.{NodeNumbers, numbered}
use Rattle.tree.specs.Records.{records, encode, labels}

-- a tree has a node: its root
pub nodes_positive : {A : Type 0} (t : Tree A) → 1 ≤ nodes t
nodes_positive (leaf a) = omega arith
nodes_positive (catenation s t) = omega arith
nodes_positive (union s t) = omega arith
nodes_positive (star s) = omega arith

-- the length of two lists with one more label behind them
length_two : (xs ys : List ℕ) (a m n : ℕ) → length xs ≡ m → length ys ≡ n → length (xs ++ ys ++ (a ∷ [])) ≡ m + n + 1
length_two xs ys a m n p q = simp length-append (omega arith)

-- one label for each node
pub length_labels : (t : Tree Leaf) → length (labels t) ≡ nodes t
length_labels (leaf a) = refl
length_labels (catenation s t) = length_two (labels s) (labels t) _ _ _ (length_labels s) (length_labels t)
length_labels (union s t) = length_two (labels s) (labels t) _ _ _ (length_labels s) (length_labels t)
length_labels (star s) = let r = length_labels s in simp length-append (omega arith)

-- one record for each node
pub length_records : (t : Tree Leaf) (x : NodeNumbers) (first : ℕ) → length (records t x first) ≡ record_size * nodes t
length_records (leaf a) x first = refl
length_records (catenation s t) x first =
    let p = length_records s in let q = length_records t in simp (length-append, p, q) (omega arith)
length_records (union s t) x first =
    let p = length_records s in let q = length_records t in simp (length-append, p, q) (omega arith)
length_records (star s) x first = let p = length_records s in simp (length-append, p) (omega arith)

-- so has the list of a tree
pub length_encode : (t : Tree Leaf) → length (encode t) ≡ record_size * nodes t
unfolding encode
length_encode t = length_records t (numbered t (wanted t) 0 1) 0
