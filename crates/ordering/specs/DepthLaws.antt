-- Labels read one by one leave so many trees as the depth says, and one tree is left exactly where they are a tree's.
use Rattle.std.specs.Prelude.{ℕ, ◌+◌, ◌≤◌, ◌<◌, ◌≡◌, refl, Bool, true, false, List, [], ◌∷◌, ◌++◌, length, get_or, take, drop}
use Rattle.std.proofs.Common.{ap, sym, ◌∙◌, arith, add-one, take-append-drop, take-suc}
use Rattle.std.proofs.Math.Option.{Option, none, some}
use Rattle.std.proofs.Math.Seq.{take-length}
use Rattle.language.specs.Tree.{Tree}
use Rattle.tree.specs.Leaf.{Leaf}
use Rattle.tree.specs.Postorder.{
  Asked,
  asked,
  a_leaf,
  a_catenation,
  a_union,
  a_star,
  nothing,
  pushed,
  onward,
  built,
  built_append,
  one_tree_exactly,
}
use Rattle.cutting.specs.Measured.{Postorder}
use Rattle.ordering.specs.Depth.{depth_after, depth_of, TreesWaiting, OneTree}

-- the count follows the machine
depth_pushed : (what : Asked) (stack : List (Tree Leaf)) → depth_of (pushed what stack)
    ≡ depth_after what (length stack)
depth_pushed (a_leaf a) stack = sym (add-one (length stack))
depth_pushed a_catenation [] = refl
depth_pushed a_catenation (t ∷ []) = refl
depth_pushed a_catenation (t ∷ (s ∷ stack)) = omega arith
depth_pushed a_union [] = refl
depth_pushed a_union (t ∷ []) = refl
depth_pushed a_union (t ∷ (s ∷ stack)) = omega arith
depth_pushed a_star [] = refl
depth_pushed a_star (s ∷ stack) = refl
depth_pushed nothing stack = refl

-- nothing is read at first
pub reads_none : (ls : List ℕ) → TreesWaiting ls 0 0
reads_none ls = record { stack = []; so_far = refl; deep = refl }

-- the stack after one label more
next_built : (ls : List ℕ) (i : ℕ) (stack : List (Tree Leaf)) → i < length ls → built (take i ls) [] ≡ some stack
    → built (take (i + 1) ls) [] ≡ pushed (asked (get_or ls i 0)) stack
next_built ls i stack h e =
    let one_more : take (i + 1) ls ≡ take i ls ++ (get_or ls i 0 ∷ []) = rw add-one (take-suc ls i 0 h) in
    ap (λ (l : List ℕ). built l []) one_more ∙ built_append (take i ls) (get_or ls i 0 ∷ []) []
    ∙ ap (λ (o : Option (List (Tree Leaf))). onward o (built (get_or ls i 0 ∷ []))) e
    ∙ last (pushed (asked (get_or ls i 0)) stack)
  where
    last : (o : Option (List (Tree Leaf))) → onward o (built []) ≡ o
    last none = refl
    last (some s) = refl

-- one label more, where the count is not 0
pub reads_more : (ls : List ℕ) (i depth : ℕ) → i < length ls → TreesWaiting ls i depth
    → 0 < depth_after (asked (get_or ls i 0)) depth → TreesWaiting ls (i + 1) (depth_after (asked (get_or ls i 0)) depth)
reads_more ls i depth h r positive =
    by_stack (pushed (asked (get_or ls i 0)) r.stack) (next_built ls i r.stack h r.so_far)
    (depth_pushed (asked (get_or ls i 0)) r.stack ∙ ap (depth_after (asked (get_or ls i 0))) r.deep)
  where
    by_stack : (o : Option (List (Tree Leaf))) → built (take (i + 1) ls) [] ≡ o
        → depth_of o ≡ depth_after (asked (get_or ls i 0)) depth
        → TreesWaiting ls (i + 1) (depth_after (asked (get_or ls i 0)) depth)
    by_stack none e d = absurd (omega arith)
    by_stack (some stack) e d = record { stack = stack; so_far = e; deep = d }

-- where the count is 0 the machine has no stack
pushed_none : (what : Asked) (stack : List (Tree Leaf)) → depth_after what (length stack) ≡ 0 → pushed what stack ≡ none
pushed_none (a_leaf a) stack e = absurd (omega arith)
pushed_none a_catenation [] e = refl
pushed_none a_catenation (t ∷ []) e = refl
pushed_none a_catenation (t ∷ (s ∷ stack)) e = absurd (omega arith)
pushed_none a_union [] e = refl
pushed_none a_union (t ∷ []) e = refl
pushed_none a_union (t ∷ (s ∷ stack)) e = absurd (omega arith)
pushed_none a_star [] e = refl
pushed_none a_star (s ∷ stack) e = absurd (omega arith)
pushed_none nothing stack e = refl

-- a machine without a stack does not end with one tree
never_both : (o : Option (List (Tree Leaf))) (stack : List (Tree Leaf)) → o ≡ none → o ≡ some stack → ⊥
never_both o stack p q = let z : ◌≡◌ {A = ℕ} 0 1 = cc in omega arith

-- then the labels are those of no tree
pub reads_stuck : (ls : List ℕ) (i depth : ℕ) → i < length ls → TreesWaiting ls i depth
    → depth_after (asked (get_or ls i 0)) depth ≡ 0 → Postorder ls → ⊥
reads_stuck ls i depth h r stuck o =
    let no_stack : built (take (i + 1) ls) [] ≡ none =
    next_built ls i r.stack h r.so_far
    ∙ pushed_none (asked (get_or ls i 0)) r.stack (ap (depth_after (asked (get_or ls i 0))) r.deep ∙ stuck) in
    let whole : built ls [] ≡ none =
    ap (λ (l : List ℕ). built l []) (sym (take-append-drop (i + 1) ls))
    ∙ built_append (take (i + 1) ls) (drop (i + 1) ls) []
    ∙ ap (λ (a : Option (List (Tree Leaf))). onward a (built (drop (i + 1) ls))) no_stack in
    never_both (built ls []) (o.tree ∷ []) whole ((one_tree_exactly ls o.tree).1 o.same)

-- what the machine ends with
ended : (ls : List ℕ) (depth : ℕ) (r : TreesWaiting ls (length ls) depth) → built ls [] ≡ some r.stack
ended ls depth r = rw take-length at r.so_far

-- at the end the count is 1 for one tree
pub reads_tree : (ls : List ℕ) (depth : ℕ) → TreesWaiting ls (length ls) depth → depth ≡ 1 → Postorder ls
reads_tree ls depth r e = by_stack r.stack (ended ls depth r) (r.deep ∙ e)
  where
    by_stack : (stack : List (Tree Leaf)) → built ls [] ≡ some stack → length stack ≡ 1 → Postorder ls
    by_stack [] b l = absurd (omega arith)
    by_stack (t ∷ []) b l = record { tree = t; same = (one_tree_exactly ls t).0 b }
    by_stack (t ∷ (s ∷ stack)) b l = absurd (omega arith)

-- and for one tree only
pub reads_other : (ls : List ℕ) (depth : ℕ) → TreesWaiting ls (length ls) depth → (depth ≡ 1 → ⊥) → Postorder ls → ⊥
reads_other ls depth r other o =
    let same : r.stack ≡ o.tree ∷ [] = cc (ended ls depth r, (one_tree_exactly ls o.tree).1 o.same) in
    other (sym r.deep ∙ ap length same)

-- stuck on the way
pub stuck_tree : (ls : List ℕ) (i depth : ℕ) → i < length ls → TreesWaiting ls i depth
    → depth_after (asked (get_or ls i 0)) depth ≡ 0 → OneTree ls false
stuck_tree ls i depth h r stuck =
    record { if_so = λ e. absurd (never e); if_not = λ e o. reads_stuck ls i depth h r stuck o }
  where
    never : false ≡ true → ⊥
    never e = let z : ◌≡◌ {A = ℕ} 0 1 = cc in omega arith

-- read to the end
pub read_tree : (ls : List ℕ) (depth : ℕ) (b : Bool) → TreesWaiting ls (length ls) depth → (b ≡ true → depth ≡ 1)
    → (b ≡ false → depth ≡ 1 → ⊥) → OneTree ls b
read_tree ls depth b r one other =
    record { if_so = λ e. reads_tree ls depth r (one e); if_not = λ e. reads_other ls depth r (other e) }

-- a label adds one tree at most
pub depth_grows : (what : Asked) (depth : ℕ) → depth_after what depth ≤ depth + 1
depth_grows (a_leaf a) depth = omega arith
depth_grows a_catenation depth = omega arith
depth_grows a_union depth = omega arith
depth_grows a_star depth = omega arith
depth_grows nothing depth = omega arith
