-- The wanted cut has pieces of at most 15 nodes, and no cut that does has fewer pieces: over all sets of cut edges. Of
-- two cuts of a tree the better one cuts fewer edges, or as many and leaves fewer nodes in the root's piece. One number
-- tells both, the weight: 15 for each cut edge and 1 for each node of the root's piece, which has 1 to 15 nodes.
use Rattle.std.specs.Prelude.{ℕ, ◌+◌, ◌*◌, ◌≤◌, ◌<◌, ◌≡◌, refl, ◌↔◌, Bool, true, false}
use Rattle.std.proofs.Common.{arith}
use Rattle.std.proofs.Math.Decide.{dec_lt}
use Rattle.language.specs.Tree.{Tree, leaf, catenation, union, star}
use Rattle.tree.specs.Leaf.{Leaf}
use Rattle.tree.specs.Limits.{most_nodes, most_pieces}
use Rattle.tree.specs.Cut.{Cut, kept, one, root_piece_nodes, cuts, pieces, Fits, open_size, wanted}
use Rattle.tree.specs.Records.{piece_count}
use Rattle.tree.specs.Choice.{
  Choice,
  neither,
  left_off,
  right_off,
  both_off,
  chosen,
  OnlyChoice,
  stays,
  goes_off,
  only_choice,
  open_at_most,
  open_positive,
}

-- the wanted cut leaves the open size in the root's piece
pub part_wanted : {A : Type 0} (t : Tree A) → root_piece_nodes t (wanted t) ≡ open_size t
part_wanted (leaf a) = refl
part_wanted (catenation s t) = rw (part_wanted s, part_wanted t)
part_wanted (union s t) = rw (part_wanted s, part_wanted t)
part_wanted (star s) = rw (part_wanted s)

-- a root's piece of the wanted cut has at most 15 nodes
part_wanted_fits : {A : Type 0} (t : Tree A) → root_piece_nodes t (wanted t) ≤ most_nodes
part_wanted_fits t = rw (part_wanted t) (open_at_most t)

-- the wanted cut fits
pub wanted_fits : {A : Type 0} (t : Tree A) → Fits t (wanted t)
wanted_fits (leaf a) = tt
wanted_fits (catenation s t) = (part_wanted_fits (catenation s t), wanted_fits s, wanted_fits t)
wanted_fits (union s t) = (part_wanted_fits (union s t), wanted_fits s, wanted_fits t)
wanted_fits (star s) = (part_wanted_fits (star s), wanted_fits s)

-- in a cut that fits, the root's piece has at most 15 nodes
pub part_at_most : {A : Type 0} (t : Tree A) (c : Cut t) → Fits t c → root_piece_nodes t c ≤ most_nodes
part_at_most (leaf a) c h = omega arith
part_at_most (catenation s t) c h = h.0
part_at_most (union s t) c h = h.0
part_at_most (star s) c h = h.0

-- a child that weighs at least w adds at least w, cut off or not
adds : {A : Type 0} (b : Bool) (s : Tree A) (d : Cut s) (w : ℕ) → Fits s d
    → w ≤ most_nodes * cuts s d + root_piece_nodes s d
    → w ≤ most_nodes * (one b + cuts s d) + kept b (root_piece_nodes s d)
adds true s d w h e = omega (arith, part_at_most s d h)
adds false s d w h e = omega arith

-- where a child of open size l, at least the other's r, is cut off: its weight or the other's is less than that of any
-- child that stays, by 15
larger_off : (k m K P M Q l r : ℕ) → most_nodes < 1 + l + r → r ≤ l → 1 + P + Q ≤ most_nodes
    → most_nodes * k + l ≤ most_nodes * K + P
    → most_nodes * m + r ≤ most_nodes * M + Q → most_nodes * (1 + k + m) + r ≤ most_nodes * (K + M) + (P + Q)
larger_off k m K P M Q l r large larger fits x y = elim (dec_lt P l) [ yes h ↦ omega arith | no h ↦ omega arith ]

-- at a node with two children the choice is lightest: K and P, M and Q are the cut edges and the nodes that the
-- children add under another cut
lightest_of_two : {l r : ℕ} {b c : Bool} (k m K P M Q : ℕ) → Choice l r b c → 1 + P + Q ≤ most_nodes
    → most_nodes * k + l ≤ most_nodes * K + P
    → most_nodes * m + r ≤ most_nodes * M + Q
    → most_nodes * (one b + k + (one c + m)) + (1 + kept b l + kept c r) ≤ most_nodes * (K + M) + (1 + P + Q)
lightest_of_two k m K P M Q (neither small) fits x y = omega arith
lightest_of_two {l} {r} k m K P M Q (left_off large larger small) fits x y =
    omega (arith, larger_off k m K P M Q l r large larger fits x y)
lightest_of_two {l} {r} k m K P M Q (right_off large larger small) fits x y =
    omega (arith, larger_off m k M Q K P r l (omega arith) (omega arith) (omega arith) y x)
lightest_of_two k m K P M Q (both_off large still) fits x y = omega arith

-- at a star the choice is lightest
lightest_of_one : {n : ℕ} {b : Bool} (k K P : ℕ) → OnlyChoice n b → 1 + P ≤ most_nodes
    → most_nodes * k + n ≤ most_nodes * K + P
    → most_nodes * (one b + k) + (1 + kept b n) ≤ most_nodes * K + (1 + P)
lightest_of_one k K P (stays small) fits x = omega arith
lightest_of_one k K P (goes_off large) fits x = omega arith

-- the wanted cut is lightest, of all that fit: from the leaves up
lightest : {A : Type 0} (t : Tree A) (c : Cut t) → Fits t c → most_nodes * cuts t (wanted t) + open_size t
    ≤ most_nodes * cuts t c + root_piece_nodes t c
lightest (leaf a) c h = omega arith
lightest (catenation s t) c h =
    lightest_of_two _ _ _ _ _ _ (chosen s t) h.0 (adds c.0 s _ _ h.1 (lightest s c.1 h.1))
    (adds c.2 t _ _ h.2 (lightest t c.3 h.2))
lightest (union s t) c h =
    lightest_of_two _ _ _ _ _ _ (chosen s t) h.0 (adds c.0 s _ _ h.1 (lightest s c.1 h.1))
    (adds c.2 t _ _ h.2 (lightest t c.3 h.2))
lightest (star s) c h =
    lightest_of_one _ _ _ (only_choice (open_size s)) h.0 (adds c.0 s _ _ h.1 (lightest s c.1 h.1))

-- no cut with pieces of at most 15 nodes has fewer pieces than the wanted one: a lightest cut has the fewest cut edges
pub least : {A : Type 0} (t : Tree A) (c : Cut t) → Fits t c → pieces t (wanted t) ≤ pieces t c
least t c h = omega (arith, lightest t c h, open_positive t, part_at_most t c h)

-- a tree has at most 128 pieces exactly when some cut with pieces of at most 15 nodes has
pub few_exactly : (t : Tree Leaf) → (piece_count t ≤ most_pieces)
    ↔ ((c : Cut t) × Fits t c × (pieces t c ≤ most_pieces))
unfolding piece_count
few_exactly t = (λ few. (wanted t, wanted_fits t, few), λ (c, fits, few). omega (arith, least t c fits))

-- and more than 128 exactly when every such cut has
pub too_many_exactly : (t : Tree Leaf) → (most_pieces < piece_count t)
    ↔ ((c : Cut t) → Fits t c → most_pieces < pieces t c)
unfolding piece_count
too_many_exactly t = (λ many c h. omega (arith, least t c h), λ many. many (wanted t) (wanted_fits t))
