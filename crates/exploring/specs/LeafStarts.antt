-- The starts of leaves in the pieces: which states of the cut automaton they are, and that the masks of the leaves,
-- taken as words, mark just these.
use Rattle.std.specs.Prelude.{ℕ, ◌+◌, ◌<◌, ◌≡◌, refl, true, ◌↔◌, List, get_or, drop}
use Rattle.std.proofs.Common.{sym, ap, ◌∙◌, subst, arith, get_or-drop}
use Rattle.std.proofs.lemmas.Bool.{false≢true}
use Rattle.std.proofs.Math.Logic.Iff
use Rattle.language.specs.Automaton.{State, start, accepting, left, right}
use Rattle.language.specs.Nested.{Nested, leaf, catenation, union, star, below, whole, Has, origin}
use Rattle.language.specs.TakenAsOne.{LeafStart}
use Rattle.tree.specs.Leaf.{Leaf, character, class, empty_text, has_empty, meaning}
use Rattle.tables.specs.Words.{Bit, width, run, Own, number, Marked, Holds}
use Rattle.tables.specs.Plan.{leaves_mask, IsLeaf, leads_on, jumps_to, leads_and_jumps, codes_of}
use Rattle.closing.specs.BitsOfWords.Numbers.{number_below}
use Rattle.closing.specs.BitsOfWords.Spots.{bit_at, bit_of}
use Rattle.closing.specs.Passes.Laid.{Lays, LaysBelow, LaysEach}
use Rattle.closing.specs.Passes.Transitions.{left_code, right_code, end_code, inside_code, last_code}

-- q is the start of a leaf of one of the pieces, other than the leaf of the empty text
abbrev pub LeafAt : Nested Leaf → State → Type 0
LeafAt (leaf a) start = has_empty a ≡ true → ⊥
LeafAt (leaf a) accepting = ⊥
LeafAt (leaf a) (left q) = ⊥
LeafAt (leaf a) (right q) = ⊥
LeafAt (catenation x y) start = ⊥
LeafAt (catenation x y) accepting = ⊥
LeafAt (catenation x y) (left q) = LeafAt x q
LeafAt (catenation x y) (right q) = LeafAt y q
LeafAt (union x y) start = ⊥
LeafAt (union x y) accepting = ⊥
LeafAt (union x y) (left q) = LeafAt x q
LeafAt (union x y) (right q) = LeafAt y q
LeafAt (star x) start = ⊥
LeafAt (star x) accepting = ⊥
LeafAt (star x) (left q) = LeafAt x q
LeafAt (star x) (right q) = ⊥
LeafAt (below x) start = ⊥
LeafAt (below x) accepting = ⊥
LeafAt (below x) (left q) = LeafAt x q
LeafAt (below x) (right q) = ⊥

-- it is a state
pub leaf_has : (x : Nested Leaf) (q : State) → LeafAt x q → Has x q
leaf_has (leaf a) start at = tt
leaf_has (catenation x y) (left q) at = leaf_has x q at
leaf_has (catenation x y) (right q) at = leaf_has y q at
leaf_has (union x y) (left q) at = leaf_has x q at
leaf_has (union x y) (right q) at = leaf_has y q at
leaf_has (star x) (left q) at = leaf_has x q at
leaf_has (below x) (left q) at = leaf_has x q at
leaf_has (leaf a) accepting at = elim at [ ]
leaf_has (leaf a) (left q) at = elim at [ ]
leaf_has (leaf a) (right q) at = elim at [ ]
leaf_has (catenation x y) start at = elim at [ ]
leaf_has (catenation x y) accepting at = elim at [ ]
leaf_has (union x y) start at = elim at [ ]
leaf_has (union x y) accepting at = elim at [ ]
leaf_has (star x) start at = elim at [ ]
leaf_has (star x) accepting at = elim at [ ]
leaf_has (star x) (right q) at = elim at [ ]
leaf_has (below x) start at = elim at [ ]
leaf_has (below x) accepting at = elim at [ ]
leaf_has (below x) (right q) at = elim at [ ]

module _ (classes : List ℕ) where
  -- it is one of the uncut tree
  pub leaf_origin : (x : Nested Leaf) (q : State) → LeafAt x q → LeafStart (meaning classes) (whole x) (origin x q)
  leaf_origin (leaf a) start at = at
  leaf_origin (catenation x y) (left q) at = leaf_origin x q at
  leaf_origin (catenation x y) (right q) at = leaf_origin y q at
  leaf_origin (union x y) (left q) at = leaf_origin x q at
  leaf_origin (union x y) (right q) at = leaf_origin y q at
  leaf_origin (star x) (left q) at = leaf_origin x q at
  leaf_origin (below x) (left q) at = leaf_origin x q at
  leaf_origin (leaf a) accepting at = elim at [ ]
  leaf_origin (leaf a) (left q) at = elim at [ ]
  leaf_origin (leaf a) (right q) at = elim at [ ]
  leaf_origin (catenation x y) start at = elim at [ ]
  leaf_origin (catenation x y) accepting at = elim at [ ]
  leaf_origin (union x y) start at = elim at [ ]
  leaf_origin (union x y) accepting at = elim at [ ]
  leaf_origin (star x) start at = elim at [ ]
  leaf_origin (star x) accepting at = elim at [ ]
  leaf_origin (star x) (right q) at = elim at [ ]
  leaf_origin (below x) start at = elim at [ ]
  leaf_origin (below x) accepting at = elim at [ ]
  leaf_origin (below x) (right q) at = elim at [ ]

  -- each of the uncut tree is one
  abbrev FromLeaf : Nested Leaf → State → Type 0
  FromLeaf x p = (q : State) × LeafAt x q × (origin x q ≡ p)

  pub origin_leaf : (x : Nested Leaf) (p : State) → LeafStart (meaning classes) (whole x) p → FromLeaf x p
  origin_leaf (leaf a) start at = (start, at, refl)
  origin_leaf (catenation x y) (left p) at = let (q, here, e) = origin_leaf x p at in (left q, here, ap left e)
  origin_leaf (catenation x y) (right p) at = let (q, here, e) = origin_leaf y p at in (right q, here, ap right e)
  origin_leaf (union x y) (left p) at = let (q, here, e) = origin_leaf x p at in (left q, here, ap left e)
  origin_leaf (union x y) (right p) at = let (q, here, e) = origin_leaf y p at in (right q, here, ap right e)
  origin_leaf (star x) (left p) at = let (q, here, e) = origin_leaf x p at in (left q, here, ap left e)
  origin_leaf (below x) p at = let (q, here, e) = origin_leaf x p at in (left q, here, e)
  origin_leaf (leaf a) accepting at = elim at [ ]
  origin_leaf (leaf a) (left p) at = elim at [ ]
  origin_leaf (leaf a) (right p) at = elim at [ ]
  origin_leaf (catenation x y) start at = elim at [ ]
  origin_leaf (catenation x y) accepting at = elim at [ ]
  origin_leaf (union x y) start at = elim at [ ]
  origin_leaf (union x y) accepting at = elim at [ ]
  origin_leaf (star x) start at = elim at [ ]
  origin_leaf (star x) accepting at = elim at [ ]
  origin_leaf (star x) (right p) at = elim at [ ]

-- a code says that a leaf starts there exactly where P
abbrev SaysLeaf : ℕ → Type 0 → Type 0
SaysLeaf code P = IsLeaf code ↔ P

-- codes of other states say that none does
zero_says : SaysLeaf 0 ⊥
zero_says = (λ h. h.1 refl, λ none. absurd none)

on_says : SaysLeaf leads_on ⊥
on_says = (λ h. omega (arith, h.0), λ none. absurd none)

jump_says : (t : ℕ) → SaysLeaf (jumps_to t) ⊥
jump_says t = (λ h. omega (arith, h.0), λ none. absurd none)

both_says : (t : ℕ) → SaysLeaf (leads_and_jumps t) ⊥
both_says t = (λ h. omega (arith, h.0), λ none. absurd none)

-- told with another form of the code
says_at : {c d : ℕ} {P : Type 0} → d ≡ c → SaysLeaf c P → SaysLeaf d P
says_at {c} {d} {P} e says = subst (λ (n : ℕ). SaysLeaf n P) (sym e) says

-- the code of a state of the top piece says whether a leaf starts there
code_says : (x : Nested Leaf) (i exit : ℕ) → SaysLeaf exit ⊥ → (q : State) → Own x q
    → SaysLeaf (get_or (codes_of x i exit) (number x q) 0) (LeafAt x q)
code_says (leaf (character c)) i exit none start o =
    (λ h e. false≢true e, λ h. (omega arith, λ e. omega arith))
code_says (leaf (class k)) i exit none start o =
    (λ h e. false≢true e, λ h. (omega arith, λ e. omega arith))
code_says (leaf empty_text) i exit none start o = (λ h e. omega (arith, h.0), λ h. absurd (h refl))
code_says (leaf a) i exit none accepting o = none
code_says (catenation x y) i exit none start o = on_says
code_says (catenation x y) i exit none accepting o = says_at (end_code _ exit x y _ _ _ _) none
code_says (catenation x y) i exit none (left p) o =
    says_at (left_code _ exit x y _ _ _ _ p o) (code_says x (i + 1) _ on_says p o)
code_says (catenation x y) i exit none (right p) o =
    says_at (right_code _ exit x y _ _ _ _ p o) (code_says y (i + (1 + width x)) _ on_says p o)
code_says (union x y) i exit none start o = both_says (i + (1 + width x))
code_says (union x y) i exit none accepting o = says_at (end_code _ exit x y _ _ _ _) none
code_says (union x y) i exit none (left p) o =
    says_at (left_code _ exit x y _ _ _ _ p o)
    (code_says x (i + 1) _ (jump_says (i + (1 + width x + width y))) p o)
code_says (union x y) i exit none (right p) o =
    says_at (right_code _ exit x y _ _ _ _ p o) (code_says y (i + (1 + width x)) _ on_says p o)
code_says (star x) i exit none start o = both_says (i + (1 + width x))
code_says (star x) i exit none accepting o = says_at (last_code _ exit x _ _) none
code_says (star x) i exit none (left p) o =
    says_at (inside_code _ exit x _ _ p o) (code_says x (i + 1) _ (both_says (i + 1)) p o)
code_says (below x) i exit none start o = zero_says
code_says (below x) i exit none accepting o = none
code_says (leaf a) i exit none (left p) o = elim o [ ]
code_says (leaf a) i exit none (right p) o = elim o [ ]
code_says (star x) i exit none (right p) o = elim o [ ]
code_says (below x) i exit none (left p) o = elim o [ ]
code_says (below x) i exit none (right p) o = elim o [ ]

module _ (rows : List ℕ) where
  -- it has the bits of the starts of the piece's leaves
  own_mask : (x : Nested Leaf) (k : ℕ) → Lays rows x k → (q : State) → Own x q
      → Bit (leaves_mask rows k) (number x q) ↔ LeafAt x q
  own_mask x k lays q o =
      let inside = number_below x q o in
      let says = code_says x 0 0 zero_says q o in (
        λ b. says.0 ((lays.coded.leaves (number x q)).0 b).1,
        λ at. (lays.coded.leaves (number x q)).1 (inside, says.1 at),
      )

  -- words below x, for the pieces from `new` on, are the masks of their leaves
  abbrev MasksBelow : Nested Leaf → List ℕ → ℕ → Type 0
  MasksBelow x ws new = (o : ℕ) → o < run x → get_or ws o 0 ≡ leaves_mask rows (new + o)

  -- where x's own bits, counted from i, are those of its leaves' starts, so are all
  marked_leaf : (x : Nested Leaf) (w i : ℕ) (ws : List ℕ) (new : ℕ)
      → ((q : State) → Own x q → Bit w (i + number x q) ↔ LeafAt x q) → LaysBelow rows x new
      → MasksBelow x ws new → (q : State) → Has x q → Marked x w i ws q ↔ LeafAt x q
  marked_leaf (leaf a) w i ws new top lays masks start has = Iff.trans (bit_at w (omega arith)) (top start tt)
  marked_leaf (leaf a) w i ws new top lays masks accepting has = Iff.trans (bit_at w (omega arith)) (top accepting tt)
  marked_leaf (catenation x y) w i ws new top lays masks start has = Iff.trans (bit_at w (omega arith)) (top start tt)
  marked_leaf (catenation x y) w i ws new top lays masks accepting has = top accepting tt
  marked_leaf (catenation x y) w i ws new top lays masks (left q) has =
      marked_leaf x w (i + 1) ws new (λ p o. Iff.trans (bit_at w (omega arith)) (top (left p) o)) lays.0
      (λ o l. masks o (omega arith)) q has
  marked_leaf (catenation x y) w i ws new top lays masks (right q) has =
      marked_leaf y w (i + (1 + width x)) (drop (run x) ws) (new + run x)
      (λ p o. Iff.trans (bit_at w (omega arith)) (top (right p) o)) lays.1
      (λ o l. get_or-drop (run x) ws o 0 ∙ masks (run x + o) (omega arith) ∙ ap (leaves_mask rows) (omega arith)) q has
  marked_leaf (union x y) w i ws new top lays masks start has = Iff.trans (bit_at w (omega arith)) (top start tt)
  marked_leaf (union x y) w i ws new top lays masks accepting has = top accepting tt
  marked_leaf (union x y) w i ws new top lays masks (left q) has =
      marked_leaf x w (i + 1) ws new (λ p o. Iff.trans (bit_at w (omega arith)) (top (left p) o)) lays.0
      (λ o l. masks o (omega arith)) q has
  marked_leaf (union x y) w i ws new top lays masks (right q) has =
      marked_leaf y w (i + (1 + width x)) (drop (run x) ws) (new + run x)
      (λ p o. Iff.trans (bit_at w (omega arith)) (top (right p) o)) lays.1
      (λ o l. get_or-drop (run x) ws o 0 ∙ masks (run x + o) (omega arith) ∙ ap (leaves_mask rows) (omega arith)) q has
  marked_leaf (star x) w i ws new top lays masks start has = Iff.trans (bit_at w (omega arith)) (top start tt)
  marked_leaf (star x) w i ws new top lays masks accepting has = top accepting tt
  marked_leaf (star x) w i ws new top lays masks (left q) has =
      marked_leaf x w (i + 1) ws new (λ p o. Iff.trans (bit_at w (omega arith)) (top (left p) o)) lays masks q has
  marked_leaf (below x) w i ws new top lays masks start has = Iff.trans (bit_at w (omega arith)) (top start tt)
  marked_leaf (below x) w i ws new top lays masks accepting has = top accepting tt
  marked_leaf (below x) w i ws new top lays masks (left q) has =
      let first : get_or ws 0 0 ≡ leaves_mask rows new = masks 0 (omega arith) ∙ ap (leaves_mask rows) (omega arith) in
      marked_leaf x (get_or ws 0 0) 0 (drop 1 ws) (new + 1)
      (λ p o. Iff.trans (bit_at (get_or ws 0 0) (omega arith))
      (Iff.trans (bit_of (number x p) first) (own_mask x new lays.0 p o)))
      lays.1
      (λ o l. get_or-drop 1 ws o 0 ∙ masks (1 + o) (omega arith) ∙ ap (leaves_mask rows) (omega arith)) q has
  marked_leaf (leaf a) w i ws new top lays masks (left q) has = elim has [ ]
  marked_leaf (leaf a) w i ws new top lays masks (right q) has = elim has [ ]
  marked_leaf (star x) w i ws new top lays masks (right q) has = elim has [ ]
  marked_leaf (below x) w i ws new top lays masks (right q) has = elim has [ ]

  -- the masks of all pieces, taken as words, mark the starts of the leaves
  pub masks_hold : (x : Nested Leaf) (masks : List ℕ) → LaysEach rows x
      → ((k : ℕ) → k < 1 + run x → get_or masks k 0 ≡ leaves_mask rows k) → (q : State) → Has x q
      → Holds x masks q ↔ LeafAt x q
  masks_hold x masks lays are =
      let first : get_or masks 0 0 ≡ leaves_mask rows 0 = are 0 (omega arith) in
      marked_leaf x (get_or masks 0 0) 0 (drop 1 masks) 1
      (λ p o. Iff.trans (bit_at (get_or masks 0 0) (omega arith))
      (Iff.trans (bit_of (number x p) first) (own_mask x 0 lays.0 p o)))
      lays.1 (λ o l. get_or-drop 1 masks o 0 ∙ are (1 + o) (omega arith))
