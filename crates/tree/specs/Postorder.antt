-- A tree is read back from its labels by a machine with a stack of trees: which lists of labels are those of one tree,
-- and of which.
use Rattle.std.specs.Prelude.{ℕ, ◌+◌, ◌*◌, ◌/◌, ◌%◌, ◌≡◌, refl, ◌↔◌, Bool, true, false, cond, List, [], ◌∷◌, ◌++◌, eqb}
use Rattle.std.proofs.Common.{sym, ap, append_assoc, append-nil, arith, eqb-true, ne_eqb}
use Rattle.std.proofs.Math.Option.{Option, none, some}
use Rattle.std.proofs.Math.Seq.{append_snoc}
use Rattle.language.specs.Tree.{Tree, leaf, catenation, union, star}
use Rattle.tree.specs.Leaf.{Leaf}
use Rattle.tree.specs.Layout.{
  label_of,
  character_kind,
  catenation_kind,
  union_kind,
  star_kind,
  class_kind,
  empty_kind,
}
use Rattle.tree.specs.Records.{labels, leaf_label}

-- what a label asks for: a leaf, a node over the last two trees or over the last one, or nothing that
-- a tree has
pub data Asked : Type 0 where
  a_leaf : Leaf → Asked
  a_catenation : Asked
  a_union : Asked
  a_star : Asked
  nothing : Asked

-- what is asked for: of a character by the label's low byte, of a class by what is left of it by 8, else by all of it
abbrev pub asked : ℕ → Asked
asked label =
    cond (eqb (label % 256) character_kind) (a_leaf (Leaf.character (label / 256)))
    (cond (eqb label (label_of catenation_kind 0)) a_catenation
    (cond (eqb label (label_of union_kind 0)) a_union
    (cond (eqb label (label_of star_kind 0)) a_star
    (cond (eqb (label % 8) class_kind) (a_leaf (Leaf.class (label / 8)))
    (cond (eqb label (label_of empty_kind 0)) (a_leaf Leaf.empty_text) nothing)))))

-- the stack, last tree first, after one label; none where the trees that it asks for are not there
abbrev pub pushed : Asked → List (Tree Leaf) → Option (List (Tree Leaf))
pushed (a_leaf a) stack = some (leaf a ∷ stack)
pushed a_catenation [] = none
pushed a_catenation (t ∷ []) = none
pushed a_catenation (t ∷ (s ∷ stack)) = some (catenation s t ∷ stack)
pushed a_union [] = none
pushed a_union (t ∷ []) = none
pushed a_union (t ∷ (s ∷ stack)) = some (union s t ∷ stack)
pushed a_star [] = none
pushed a_star (s ∷ stack) = some (star s ∷ stack)
pushed nothing stack = none

-- go on with a stack, if there is one
abbrev pub onward : Option (List (Tree Leaf)) → (List (Tree Leaf) → Option (List (Tree Leaf)))
    → Option (List (Tree Leaf))
onward none next = none
onward (some stack) next = next stack

-- the stack after a list of labels
abbrev pub built : List ℕ → List (Tree Leaf) → Option (List (Tree Leaf))
built [] stack = some stack
built (label ∷ rest) stack = onward (pushed (asked label) stack) (built rest)

-- the labels of the trees of a stack, first tree first
abbrev pub labels_of_stack : List (Tree Leaf) → List ℕ
labels_of_stack [] = []
labels_of_stack (t ∷ stack) = labels_of_stack stack ++ labels t

-- a leaf's label asks for that leaf
asked_leaf : (a : Leaf) → asked (leaf_label a) ≡ a_leaf a
asked_leaf (Leaf.character a) =
    let kind : (1 + 256 * a) % 256 ≡ 1 = omega arith in
    let character : (1 + 256 * a) / 256 ≡ a = omega arith in
    rw (kind, character)
asked_leaf (Leaf.class k) =
    let no_character : eqb ((5 + 8 * k) % 256) 1 ≡ false = ne_eqb ((5 + 8 * k) % 256) 1 (omega arith) in
    let no_catenation : eqb (5 + 8 * k) 2 ≡ false = ne_eqb (5 + 8 * k) 2 (omega arith) in
    let no_union : eqb (5 + 8 * k) 3 ≡ false = ne_eqb (5 + 8 * k) 3 (omega arith) in
    let no_star : eqb (5 + 8 * k) 4 ≡ false = ne_eqb (5 + 8 * k) 4 (omega arith) in
    let kind : (5 + 8 * k) % 8 ≡ 5 = omega arith in
    let number : (5 + 8 * k) / 8 ≡ k = omega arith in
    rw (no_character, no_catenation, no_union, no_star, kind, number)
asked_leaf Leaf.empty_text = refl

-- the labels of a tree put that tree on the stack
pub built_labels : (t : Tree Leaf) (rest : List ℕ) (stack : List (Tree Leaf)) → built (labels t ++ rest) stack
    ≡ built rest (t ∷ stack)
built_labels (leaf a) rest stack = ap (λ (x : Asked). onward (pushed x stack) (built rest)) (asked_leaf a)
built_labels (catenation s t) rest stack =
    let left = built_labels s in let right = built_labels t in simp (append_assoc, left, right)
built_labels (union s t) rest stack =
    let left = built_labels s in let right = built_labels t in simp (append_assoc, left, right)
built_labels (star s) rest stack = let only = built_labels s in simp (append_assoc, only)

-- two trees with the same labels are the same
pub labels_injective : (s t : Tree Leaf) → labels s ≡ labels t → s ≡ t
labels_injective s t e =
    let from_s : built (labels s) [] ≡ some (s ∷ []) = rw append-nil at (built_labels s [] []) in
    let from_t : built (labels t) [] ≡ some (t ∷ []) = rw append-nil at (built_labels t [] []) in
    cc (ap (λ (l : List ℕ). built l []) e)

-- the label is that of what is asked for
abbrev pub Asks : ℕ → Asked → Type 0
Asks label (a_leaf a) = label ≡ leaf_label a
Asks label a_catenation = label ≡ label_of catenation_kind 0
Asks label a_union = label ≡ label_of union_kind 0
Asks label a_star = label ≡ label_of star_kind 0
Asks label nothing = Unit {0}

-- by the six tests
tested : (label : ℕ) (is-character is-catenation is_union is-star is-class is-empty : Bool)
    → eqb (label % 256) character_kind ≡ is-character → eqb label (label_of catenation_kind 0) ≡ is-catenation
    → eqb label (label_of union_kind 0) ≡ is_union → eqb label (label_of star_kind 0) ≡ is-star
    → eqb (label % 8) class_kind ≡ is-class → eqb label (label_of empty_kind 0) ≡ is-empty
    → Asks label
    (cond is-character (a_leaf (Leaf.character (label / 256)))
    (cond is-catenation a_catenation
    (cond is_union a_union
    (cond is-star a_star
    (cond is-class (a_leaf (Leaf.class (label / 8))) (cond is-empty (a_leaf Leaf.empty_text) nothing))))))
tested label true b c d l k e f g h m n = omega (arith, eqb-true (label % 256) character_kind e)
tested label false true c d l k e f g h m n = eqb-true _ _ f
tested label false false true d l k e f g h m n = eqb-true _ _ g
tested label false false false true l k e f g h m n = eqb-true _ _ h
tested label false false false false true k e f g h m n = omega (arith, eqb-true (label % 8) class_kind m)
tested label false false false false false true e f g h m n = eqb-true _ _ n
tested label false false false false false false e f g h m n = tt

-- what a label asks for has that label
pub asked_says : (label : ℕ) → Asks label (asked label)
asked_says label = tested label _ _ _ _ _ _ refl refl refl refl refl refl

-- the trees of a stack, if there is one, have these labels
abbrev pub HoldsLabels : Option (List (Tree Leaf)) → List ℕ → Type 0
HoldsLabels none ls = Unit {0}
HoldsLabels (some stack) ls = labels_of_stack stack ≡ ls

-- one label more: the new tree has the labels of those under it, and this one
pushed_holds : (what : Asked) (label : ℕ) (stack : List (Tree Leaf)) → Asks label what
    → HoldsLabels (pushed what stack) (labels_of_stack stack ++ (label ∷ []))
pushed_holds (a_leaf a) label stack says = rw says
pushed_holds a_catenation label [] says = tt
pushed_holds a_catenation label (t ∷ []) says = tt
pushed_holds a_catenation label (t ∷ (s ∷ stack)) says = simp (says, append_assoc)
pushed_holds a_union label [] says = tt
pushed_holds a_union label (t ∷ []) says = tt
pushed_holds a_union label (t ∷ (s ∷ stack)) says = simp (says, append_assoc)
pushed_holds a_star label [] says = tt
pushed_holds a_star label (s ∷ stack) says = simp (says, append_assoc)
pushed_holds nothing label stack says = tt

-- the stack has the labels that were read
pub built_holds : (ls : List ℕ) (stack : List (Tree Leaf)) → HoldsLabels (built ls stack) (labels_of_stack stack ++ ls)
built_holds [] stack = rw append-nil
built_holds (label ∷ rest) stack =
    later (pushed (asked label) stack) (pushed_holds (asked label) label stack (asked_says label)) (built_holds rest)
  where
    later : (o : Option (List (Tree Leaf))) → HoldsLabels o (labels_of_stack stack ++ (label ∷ []))
        → ((after : List (Tree Leaf)) → HoldsLabels (built rest after) (labels_of_stack after ++ rest))
        → HoldsLabels (onward o (built rest)) (labels_of_stack stack ++ label ∷ rest)
    later none h go_on = tt
    later (some after) h go_on = rw (h, append_snoc) at (go_on after)

-- the labels of a stack's trees put them on the stack
pub built_stack : (stack : List (Tree Leaf)) (rest : List ℕ) → built (labels_of_stack stack ++ rest) []
    ≡ built rest stack
built_stack [] rest = refl
built_stack (t ∷ stack) rest = let before = built_stack stack in simp (append_assoc, before, built_labels)

-- the machine ends with a stack exactly when it read the labels of the stack's trees
pub postorder_exactly : (ls : List ℕ) (stack : List (Tree Leaf)) → (built ls [] ≡ some stack)
    ↔ (ls ≡ labels_of_stack stack)
postorder_exactly ls stack =
    (λ e. sym (rw e at (built_holds ls [])), λ e. rw (e, ← append-nil (labels_of_stack stack)) (built_stack stack []))

-- the machine ends with one tree exactly when it read that tree's labels
pub one_tree_exactly : (ls : List ℕ) (t : Tree Leaf) → (built ls [] ≡ some (t ∷ [])) ↔ (ls ≡ labels t)
one_tree_exactly ls t = postorder_exactly ls (t ∷ [])

-- the labels may be read in two parts
pub built_append : (xs ys : List ℕ) (stack : List (Tree Leaf))
    → built (xs ++ ys) stack ≡ onward (built xs stack) (built ys)
built_append [] ys stack = refl
built_append (label ∷ xs) ys stack = later (pushed (asked label) stack) (built_append xs ys)
  where
    later : (o : Option (List (Tree Leaf)))
        → ((after : List (Tree Leaf)) → built (xs ++ ys) after ≡ onward (built xs after) (built ys))
        → onward o (built (xs ++ ys)) ≡ onward (onward o (built xs)) (built ys)
    later none go_on = refl
    later (some after) go_on = go_on after
