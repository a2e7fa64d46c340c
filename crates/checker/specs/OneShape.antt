-- Trees of the same shape: they have the same nodes and the same cut, whatever their leaves hold.
use Rattle.std.specs.Prelude.{ℕ, ◌+◌, ◌≡◌, refl, List}
use Rattle.std.proofs.Common.{ap, sym, ◌∙◌}
use Rattle.language.specs.Tree.{Tree, leaf, catenation, union, star, nodes}
use Rattle.tree.specs.Leaf.{Leaf, character}
use Rattle.tree.specs.Cut.{cuts, open_size, wanted}
use Rattle.tree.specs.Records.{piece_count}
use Rattle.operands.specs.Scanner.{Atom, literal, one_of, no_text}
use Rattle.checker.specs.Drawn.{recorded, recorded_from}
use Rattle.operands.specs.LeavesPlaced.{written_at}

-- two trees of one shape
pub data OneShape {A B : Type 0} : Tree A → Tree B → Type 0 where
  leaves : {a : A} {b : B} → OneShape (leaf a) (leaf b)
  catenations : {s t : Tree A} {u v : Tree B} → OneShape s u → OneShape t v
      → OneShape (catenation s t) (catenation u v)
  unions : {s t : Tree A} {u v : Tree B} → OneShape s u → OneShape t v → OneShape (union s t) (union u v)
  stars : {s : Tree A} {u : Tree B} → OneShape s u → OneShape (star s) (star u)

-- the nodes
pub alike_nodes : {A B : Type 0} {s : Tree A} {t : Tree B} → OneShape s t → nodes s ≡ nodes t
alike_nodes leaves = refl
alike_nodes (catenations p q) = rw (alike_nodes p, alike_nodes q)
alike_nodes (unions p q) = rw (alike_nodes p, alike_nodes q)
alike_nodes (stars p) = rw (alike_nodes p)

-- the open sizes
pub alike_open : {A B : Type 0} {s : Tree A} {t : Tree B} → OneShape s t → open_size s ≡ open_size t
alike_open leaves = refl
alike_open (catenations p q) = rw (alike_open p, alike_open q)
alike_open (unions p q) = rw (alike_open p, alike_open q)
alike_open (stars p) = rw (alike_open p)

-- the cut edges
pub alike_cuts : {A B : Type 0} {s : Tree A} {t : Tree B} → OneShape s t → cuts s (wanted s) ≡ cuts t (wanted t)
alike_cuts leaves = refl
alike_cuts (catenations p q) = rw (alike_open p, alike_open q, alike_cuts p, alike_cuts q)
alike_cuts (unions p q) = rw (alike_open p, alike_open q, alike_cuts p, alike_cuts q)
alike_cuts (stars p) = rw (alike_open p, alike_cuts p)

-- the tree of the records has the shape of the written one
pub recorded_alike : (t : Tree Atom) (next : ℕ) → OneShape t (recorded_from t next)
recorded_alike (leaf (literal b)) next = leaves
recorded_alike (leaf (one_of class)) next = leaves
recorded_alike (leaf no_text) next = leaves
recorded_alike (catenation s t) next = catenations (recorded_alike s next) (recorded_alike t _)
recorded_alike (union s t) next = unions (recorded_alike s next) (recorded_alike t _)
recorded_alike (star s) next = stars (recorded_alike s next)

-- and so has the tree with places
pub written_alike : (bytes : List ℕ) (p : Tree Leaf) → OneShape p (written_at bytes p)
written_alike bytes (leaf (character b)) = leaves
written_alike bytes (leaf (Leaf.class at)) = leaves
written_alike bytes (leaf Leaf.empty_text) = leaves
written_alike bytes (catenation s t) = catenations (written_alike bytes s) (written_alike bytes t)
written_alike bytes (union s t) = unions (written_alike bytes s) (written_alike bytes t)
written_alike bytes (star s) = stars (written_alike bytes s)

-- as many records as nodes
pub nodes_recorded : (t : Tree Atom) → nodes (recorded t) ≡ nodes t
nodes_recorded t = sym (alike_nodes (recorded_alike t _))

-- the tree with places has the nodes and the pieces of the records' tree
pub nodes_placed : (bytes : List ℕ) (p : Tree Leaf) → nodes p ≡ nodes (recorded (written_at bytes p))
nodes_placed bytes p = alike_nodes (written_alike bytes p) ∙ sym (nodes_recorded (written_at bytes p))

pub pieces_placed : (bytes : List ℕ) (p : Tree Leaf) → piece_count p ≡ piece_count (recorded (written_at bytes p))
unfolding piece_count
pieces_placed bytes p =
    ap (λ (n : ℕ). 1 + n) (alike_cuts (written_alike bytes p) ∙ alike_cuts (recorded_alike (written_at bytes p) _))
