-- An expression has one place for each node, at most 1,023 each: so records with its places are a good list.
use Rattle.std.specs.Prelude.{ℕ, ◌*◌, ◌≤◌, ◌<◌, ◌≡◌, List, ◌++◌, length, get_or}
use Rattle.std.proofs.Common.{ap, sym, ◌∙◌, arith}
use Rattle.language.specs.Tree.{Tree, nodes}
use Rattle.language.specs.PlacedTree.{places}
use Rattle.language.specs.PlacedStandsFor.{placed_stands_for}
use Rattle.language.proofs.PlacedLaws.{unplaced_stands_for, length_places}
use Rattle.language.proofs.EachPlace.{each_at}
use Rattle.tree.specs.Limits.{most_place, most_pieces}
use Rattle.tree.specs.Leaf.{Leaf}
use Rattle.tree.specs.Layout.{record_size, place_at}
use Rattle.tree.specs.Records.{encode, piece_count, Ranked, Good}
use Rattle.tree.specs.Lengths.{length_encode}
use Rattle.tree.specs.Places.{with_places}
use Rattle.tree.specs.PlacesLaws.{
  bare_with_places,
  length_with_places,
  with_places_append,
  place_with_places,
  bare_encode,
}
use Rattle.operands.specs.Bytes.{Syntax}
use Rattle.operands.specs.Scanner.{Atom, no_text, tree, scanned}
use Rattle.operands.proofs.PlacesInside.{low_places}
use Rattle.checker.specs.Expanded.{expanded}
use Rattle.checker.specs.ExpandedLaws.{expanded_tree}
use Rattle.checker.specs.Drawn.{recorded, drawn}
use Rattle.checker.specs.OneShape.{nodes_recorded}
use Rattle.checker.specs.DrawnLaws.{drawn_tree}
use Rattle.reader.specs.PlacesIn.{places_for, places_in}

-- as many places as nodes, each at most 1,023
pub record PlacesOf (places : List ℕ) (n : ℕ) : Type 0 where
  pub count : length places ≡ n
  pub low : (r : ℕ) → r < n → get_or places r 0 ≤ most_place

-- the places of an expression that has a tree
pub places_of : (syntax : Syntax) (bytes : List ℕ) (t : Tree Atom) → expanded syntax bytes ≡ tree t
    → PlacesOf (places_in syntax bytes) (nodes t)
unfolding expanded places_in
places_of syntax bytes t e =
    let (s, scans, same, small) = expanded_tree (scanned syntax bytes) t e in
    let these : places_for (scanned syntax bytes) ≡ places (placed_stands_for no_text s) = ap places_for scans in
    let count : length (places (placed_stands_for no_text s)) ≡ nodes t =
    length_places (placed_stands_for no_text s) ∙ ap nodes (unplaced_stands_for no_text s ∙ sym same) in
    record {
      count = ap length these ∙ count;
      low = λ r h. rw these (each_at (λ place. place ≤ most_place) (places (placed_stands_for no_text s))
          (low_places syntax bytes s scans) r (omega (arith, count)));
    }

-- so of the tree of its records
pub recorded_places : (syntax : Syntax) (bytes : List ℕ) (t : Tree Atom) → expanded syntax bytes ≡ tree t
    → PlacesOf (places_in syntax bytes) (nodes (recorded t))
recorded_places syntax bytes t e = rw (nodes_recorded t) (places_of syntax bytes t e)

pub drawn_places : (syntax : Syntax) (bytes : List ℕ) (t : Tree Leaf) → drawn (expanded syntax bytes) ≡ tree t
    → PlacesOf (places_in syntax bytes) (nodes t)
drawn_places syntax bytes t e =
    let (written, outcome, same) = drawn_tree (expanded syntax bytes) t e in
    rw same (recorded_places syntax bytes written outcome)

module _ (places : List ℕ) (t : Tree Leaf) (of : PlacesOf places (nodes t)) where
  -- the records with these places are as long as without them
  pub placed_length : length (with_places places (encode t)) ≡ record_size * nodes t
  placed_length = length_with_places places (encode t) ∙ length_encode t

  -- record r has the r-th place
  pub record_place : (r : ℕ) → r < nodes t → place_at (with_places places (encode t)) r ≡ get_or places r 0
  record_place r h =
      place_with_places places (encode t) r (omega (arith, of.count)) (omega (arith, of.count, length_encode t))
      (omega (arith, of.low r h))

  -- they are a good list of the tree
  pub placed_good : piece_count t ≤ most_pieces → Ranked t → Good (with_places places (encode t)) t
  placed_good few ranked =
      record {
        of_tree = bare_with_places places (encode t) ∙ bare_encode t;
        placed = record {
          each = λ r h.
              let inside : r < nodes t = omega (arith, placed_length) in
              omega (arith, record_place r inside, of.low r inside);
        };
        few = few;
        ranked = ranked;
      }

  -- places put into the records leave what stands past them
  pub placed_recorded : (rest : List ℕ) {before after : List ℕ} → before ≡ encode t ++ rest
      → after ≡ with_places places before → after ≡ with_places places (encode t) ++ rest
  placed_recorded rest wrote put =
      put ∙ ap (with_places places) wrote
      ∙ with_places_append places (encode t) rest (omega (arith, of.count, length_encode t))
