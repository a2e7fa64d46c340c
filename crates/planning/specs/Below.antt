-- How many pieces there are below a node, as deciding on the list has left it: read at the node's record.
use Rattle.std.specs.Prelude.{ℕ, ◌+◌, ◌*◌, ◌-◌, ◌≤◌, ◌<◌, ◌≡◌, refl, List, [], ◌∷◌, ◌++◌, length, get_or}
use Rattle.std.proofs.Common.{sym, ap, ◌∙◌, arith, length-append, get_or-append-add}
use Rattle.std.proofs.Math.ListN.{get_or-append}
use Rattle.language.specs.Tree.{Tree, nodes}
use Rattle.language.specs.Nested.{Nested, leaf, catenation, union, star, below, whole}
use Rattle.tree.specs.Leaf.{Leaf}
use Rattle.tree.specs.Layout.{record_size}
use Rattle.tree.specs.Records.{Good}
use Rattle.tree.specs.Parts.{below_each}
use Rattle.tree.specs.Pieces.{cut_up, stated}
use Rattle.deciding.specs.Judged.{CountsBelow}
use Rattle.tables.specs.Words.{run}
use Rattle.tables.specs.Standing.{
  size,
  size_positive,
  Site,
  site,
  tree,
  first_record,
  catenation_left,
  catenation_right,
  union_left,
  union_right,
  operand,
  under,
  Child,
  In,
  here,
  step,
  NotStandIn,
  Fine,
}

-- the list is that of the tree whose pieces are x, and its numbers are within bounds
pub record Top (list : List ℕ) (x : Nested Leaf) : Type 0 where
  pub of_tree : Tree Leaf
  pub good : Good list of_tree
  pub cut : x ≡ cut_up of_tree
  pub fine : Fine list (1 + run x) (site x 0 0 1 0)
  pub plain : NotStandIn x
  pub all : length list ≡ record_size * size x

-- the list is that of some tree
pub record Listed (list : List ℕ) : Type 0 where
  pub some : Nested Leaf
  pub top : Top list some

-- the records of the second site are among those of the first
pub record Among (s u : Site) : Type 0 where
  pub begins : first_record s ≤ first_record u
  pub ends : first_record u + size (tree u) ≤ first_record s + size (tree s)

child_among : {s u : Site} → Child s u → Among s u
child_among (catenation_left {x = x} {y = y}) = record { begins = omega arith; ends = omega arith }
child_among (catenation_right {x = x} {y = y}) = record { begins = omega arith; ends = omega arith }
child_among (union_left {x = x} {y = y}) = record { begins = omega arith; ends = omega arith }
child_among (union_right {x = x} {y = y}) = record { begins = omega arith; ends = omega arith }
child_among (operand {x = x}) = record { begins = omega arith; ends = omega arith }
child_among (under {x = x}) = record { begins = omega arith; ends = omega arith }

pub in_among : {s u : Site} → In s u → Among s u
in_among here = record { begins = omega arith; ends = omega arith }
in_among (step c m) =
    let near = child_among c in
    let far = in_among m in
    record {
      begins = omega (arith, near.begins, far.begins);
      ends = omega (arith, near.ends, far.ends);
    }

-- one number for each record
length_below_each : (x : Nested Leaf) → length (below_each x) ≡ size x
length_below_each (leaf a) = refl
length_below_each (catenation x y) = let e = length_below_each x in let g =
    length_below_each y in simp (length-append, e, g) (omega arith)
length_below_each (union x y) = let e = length_below_each x in let g =
    length_below_each y in simp (length-append, e, g) (omega arith)
length_below_each (star x) = let e = length_below_each x in simp (length-append, e) (omega arith)
length_below_each (below x) = length_below_each x

-- an element behind m others
past : (before rest : List ℕ) (m r k : ℕ) → length before ≡ m → r ≡ m + k → get_or (before ++ rest) r 0 ≡ get_or rest k 0
past before rest m r k e f = rw (f, ← e) (get_or-append-add before rest k 0)

-- an element of the first, of the second and of the last of three parts
first_part : (xs ys zs : List ℕ) (r : ℕ) → r < length xs → get_or (xs ++ ys ++ zs) r 0 ≡ get_or xs r 0
first_part xs ys zs r low =
    let long = length-append xs ys in
    get_or-append (xs ++ ys) zs 0 r (omega arith) ∙ get_or-append xs ys 0 r low

second_part : (xs ys zs : List ℕ) (m r k : ℕ) → length xs ≡ m → r ≡ m + k → k < length ys
    → get_or (xs ++ ys ++ zs) r 0 ≡ get_or ys k 0
second_part xs ys zs m r k e f low =
    let long = length-append xs ys in
    get_or-append (xs ++ ys) zs 0 r (omega arith) ∙ past xs ys m r k e f

last_part : (xs ys : List ℕ) (n r : ℕ) → r ≡ length xs + length ys → get_or (xs ++ ys ++ (n ∷ [])) r 0 ≡ n
last_part xs ys n r e =
    let long = length-append xs ys in
    past (xs ++ ys) (n ∷ []) (length (xs ++ ys)) r 0 refl (omega arith)

-- the last number is the root's
root_below : (x : Nested Leaf) → NotStandIn x → (r : ℕ) → r + 1 ≡ size x → get_or (below_each x) r 0 ≡ run x
root_below (leaf a) plain r e = let at : r ≡ 0 = omega arith in rw at
root_below (catenation x y) plain r e =
    last_part (below_each x) (below_each y) _ r (omega (arith, length_below_each x, length_below_each y))
root_below (union x y) plain r e =
    last_part (below_each x) (below_each y) _ r (omega (arith, length_below_each x, length_below_each y))
root_below (star x) plain r e =
    past (below_each x) (run x ∷ []) (size x) r 0 (length_below_each x) (omega arith)
root_below (below x) plain r e = absurd plain

-- the number at a node's record is that of the pieces below the node
in_below : {s u : Site} → In s u → NotStandIn (tree u) → (r : ℕ)
    → first_record s + r + 1 ≡ first_record u + size (tree u)
    → get_or (below_each (tree s)) r 0 ≡ run (tree u)
in_below {s} here plain r e = root_below (tree s) plain r (omega arith)
in_below {u = u} (step (catenation_left {x = x} {y = y}) m) plain r e =
    let among = in_among m in
    first_part (below_each x) (below_each y) _ r (omega (arith, among.ends, length_below_each x))
    ∙ in_below m plain r e
in_below {u = u} (step (catenation_right {x = x} {y = y}) m) plain r e =
    let among = in_among m in
    let some = size_positive (tree u) in
    second_part (below_each x) (below_each y) _ (size x) r (r - size x) (length_below_each x)
    (omega (arith, among.begins)) (omega (arith, among.begins, among.ends, length_below_each y))
    ∙ in_below m plain (r - size x) (omega (arith, among.begins))
in_below {u = u} (step (union_left {x = x} {y = y}) m) plain r e =
    let among = in_among m in
    first_part (below_each x) (below_each y) _ r (omega (arith, among.ends, length_below_each x))
    ∙ in_below m plain r e
in_below {u = u} (step (union_right {x = x} {y = y}) m) plain r e =
    let among = in_among m in
    let some = size_positive (tree u) in
    second_part (below_each x) (below_each y) _ (size x) r (r - size x) (length_below_each x)
    (omega (arith, among.begins)) (omega (arith, among.begins, among.ends, length_below_each y))
    ∙ in_below m plain (r - size x) (omega (arith, among.begins))
in_below (step (operand {x = x}) m) plain r e =
    get_or-append (below_each x) (run x ∷ []) 0 r (omega (arith, (in_among m).ends, length_below_each x))
    ∙ in_below m plain r e
in_below (step under m) plain r e = in_below m plain r e

-- so is the slot that deciding on the list has left for it
pub slot_below : {list cuts : List ℕ} {x : Nested Leaf} → Top list x → CountsBelow list cuts → {u : Site}
    → In (site x 0 0 1 0) u → NotStandIn (tree u) → (r : ℕ) → r + 1 ≡ first_record u + size (tree u)
    → get_or cuts (r + 1) 0 ≡ run (tree u)
slot_below {x = x} top counts m plain r e =
    let t = top.of_tree in
    let same = ap nodes (stated t).same_tree in
    let cut = ap (λ (y : Nested Leaf). nodes (whole y)) top.cut in
    counts.told t top.good r (omega (arith, (in_among m).ends))
    ∙ ap (λ (y : Nested Leaf). get_or (below_each y) r 0) (sym top.cut)
    ∙ in_below m plain r (omega arith)
