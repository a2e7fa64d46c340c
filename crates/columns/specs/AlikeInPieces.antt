-- Leaves that take two bytes alike, piece by piece.
use Rattle.std.specs.Prelude.{ℕ, zero, suc, ◌+◌, ◌*◌, ◌/◌, ◌<◌, ◌≡◌, refl, ◌↔◌, List, [], ◌∷◌, ◌++◌, length, get_or}
use Rattle.std.proofs.Common.{subst, arith}
use Rattle.language.specs.Nested.{Nested, leaf, catenation, union, star, below, whole}
use Rattle.tree.specs.Leaf.{Leaf, character, class, empty_text}
use Rattle.tables.specs.Words.{width}
use Rattle.tables.specs.Plan.{leads_on, jumps_to, leads_and_jumps, IsLeaf, codes_of}
use Rattle.moving.specs.Codes.{no_leaf_takes}
use Rattle.columns.specs.Alike.{Alike, LeavesAlike, OwnAlike, BelowAlike, CodesAlike}

-- a state that leads somewhere is no start of a leaf
leading_no_leaf : IsLeaf leads_on → ⊥
leading_no_leaf is = omega (arith, is.0)

jumping_no_leaf : (to : ℕ) → IsLeaf (jumps_to to) → ⊥
jumping_no_leaf to is = omega (arith, is.0)

both_no_leaf : (to : ℕ) → IsLeaf (leads_and_jumps to) → ⊥
both_no_leaf to is = omega (arith, is.0)

module _ (classes : List ℕ) (b c : ℕ) where
  -- the leaves of a cut tree are those of its pieces
  pub pieces_of : (x : Nested Leaf) → OwnAlike classes b c x × BelowAlike classes b c x
      → LeavesAlike classes b c (whole x)
  pieces_of (leaf a) alike = alike.0
  pieces_of (catenation x y) alike =
      (pieces_of x (alike.0.0, alike.1.0), pieces_of y (alike.0.1, alike.1.1))
  pieces_of (union x y) alike = (pieces_of x (alike.0.0, alike.1.0), pieces_of y (alike.0.1, alike.1.1))
  pieces_of (star x) alike = pieces_of x alike
  pieces_of (below x) alike = pieces_of x alike.1

  pub in_pieces : (x : Nested Leaf) → LeavesAlike classes b c (whole x)
      → OwnAlike classes b c x × BelowAlike classes b c x
  in_pieces (leaf a) alike = (alike, tt)
  in_pieces (catenation x y) alike = let u = in_pieces x alike.0 in let v = in_pieces y alike.1 in
      ((u.0, v.0), (u.1, v.1))
  in_pieces (union x y) alike = let u = in_pieces x alike.0 in let v = in_pieces y alike.1 in
      ((u.0, v.0), (u.1, v.1))
  in_pieces (star x) alike = in_pieces x alike
  in_pieces (below x) alike = (tt, in_pieces x alike)

  -- two lists of codes, one behind the other
  codes_append : (k l : List ℕ) → CodesAlike classes b c (k ++ l)
      ↔ (CodesAlike classes b c k × CodesAlike classes b c l)
  codes_append [] l = (λ h. (tt, h), λ h. h.1)
  codes_append (v ∷ k) l = (
    λ h. let (some, others) = (codes_append k l).0 h.1 in ((h.0, some), others),
    λ h. (h.0.0, (codes_append k l).1 (h.0.1, h.1)),
  )

  -- the codes of a node with two parts: the parts', and those of its own two states, which are no leaf's
  two_parts : (k l : List ℕ) (first exit : ℕ) → (IsLeaf first → ⊥) → (IsLeaf exit → ⊥)
      → CodesAlike classes b c (first ∷ (k ++ l ++ (exit ∷ [])))
      ↔ (CodesAlike classes b c k × CodesAlike classes b c l)
  two_parts k l first exit no-first no-exit = (
    λ h. (codes_append k l).0 ((codes_append (k ++ l) (exit ∷ [])).0 h.1).0,
    λ h. (
      λ is. absurd (no-first is),
      (codes_append (k ++ l) (exit ∷ [])).1 ((codes_append k l).1 h, (λ is. absurd (no-exit is), tt)),
    ),
  )

  -- and of one with one part
  one_part : (k : List ℕ) (first exit : ℕ) → (IsLeaf first → ⊥) → (IsLeaf exit → ⊥)
      → CodesAlike classes b c (first ∷ (k ++ (exit ∷ []))) ↔ CodesAlike classes b c k
  one_part k first exit no-first no-exit = (
    λ h. ((codes_append k (exit ∷ [])).0 h.1).0,
    λ h. (λ is. absurd (no-first is), (codes_append k (exit ∷ [])).1 (h, (λ is. absurd (no-exit is), tt))),
  )

  -- a leaf's two states
  leaf_codes : (n exit : ℕ) → (n ≡ 0 → ⊥) → (IsLeaf exit → ⊥)
      → CodesAlike classes b c (4 * n ∷ exit ∷ []) ↔ Alike classes n b c
  leaf_codes n exit some no-exit = (
    λ h. subst (λ (m : ℕ). Alike classes m b c) (omega arith) (h.0 (omega arith, λ none. some (omega arith))),
    λ h. (λ is. subst (λ (m : ℕ). Alike classes m b c) (omega arith) h, (λ is. absurd (no-exit is), tt)),
  )

  -- the leaf of the empty text takes no byte
  none_taken : Alike classes 0 b c
  none_taken = record {
    taken = (λ takes. absurd (no_leaf_takes takes refl), λ takes. absurd (no_leaf_takes takes refl));
  }

  -- the codes of a piece's own states are alike where its own leaves are
  pub own_codes : (x : Nested Leaf) (i exit : ℕ) → (IsLeaf exit → ⊥)
      → CodesAlike classes b c (codes_of x i exit) ↔ OwnAlike classes b c x
  own_codes (leaf (character a)) i exit no-exit = leaf_codes (2 * (a + 1)) exit (λ e. omega arith) no-exit
  own_codes (leaf (class k)) i exit no-exit = leaf_codes (2 * k + 1) exit (λ e. omega arith) no-exit
  own_codes (leaf empty_text) i exit no-exit =
      (λ h. none_taken, λ h. (λ is. absurd (leading_no_leaf is), (λ is. absurd (no-exit is), tt)))
  own_codes (catenation x y) i exit no-exit =
      let parts = two_parts (codes_of x (i + 1) leads_on) (codes_of y (i + (1 + width x)) leads_on) leads_on exit
      leading_no_leaf no-exit in
      let u = own_codes x (i + 1) leads_on leading_no_leaf in
      let v = own_codes y (i + (1 + width x)) leads_on leading_no_leaf in
      (λ h. (u.0 (parts.0 h).0, v.0 (parts.0 h).1), λ h. parts.1 (u.1 h.0, v.1 h.1))
  own_codes (union x y) i exit no-exit =
      let past = jumps_to (i + (1 + width x + width y)) in
      let parts = two_parts (codes_of x (i + 1) past) (codes_of y (i + (1 + width x)) leads_on)
      (leads_and_jumps (i + (1 + width x))) exit (both_no_leaf (i + (1 + width x))) no-exit in
      let u = own_codes x (i + 1) past (jumping_no_leaf (i + (1 + width x + width y))) in
      let v = own_codes y (i + (1 + width x)) leads_on leading_no_leaf in
      (λ h. (u.0 (parts.0 h).0, v.0 (parts.0 h).1), λ h. parts.1 (u.1 h.0, v.1 h.1))
  own_codes (star x) i exit no-exit =
      let part = one_part (codes_of x (i + 1) (leads_and_jumps (i + 1))) (leads_and_jumps (i + (1 + width x))) exit
      (both_no_leaf (i + (1 + width x))) no-exit in
      let u = own_codes x (i + 1) (leads_and_jumps (i + 1)) (both_no_leaf (i + 1)) in
      (λ h. u.0 (part.0 h), λ h. part.1 (u.1 h))
  own_codes (below x) i exit no-exit =
      (λ h. tt, λ h. (λ is. absurd (is.1 refl), (λ is. absurd (no-exit is), tt)))

  -- codes in a list, told by their numbers
  pub codes_each : (l : List ℕ) → CodesAlike classes b c l
      → (i : ℕ) → i < length l → IsLeaf (get_or l i 0) → Alike classes (get_or l i 0 / 4) b c
  codes_each [] alike i h = absurd (omega arith)
  codes_each (v ∷ l) alike zero h = alike.0
  codes_each (v ∷ l) alike (suc i) h = codes_each l alike.1 i (omega arith)

  pub each_codes : (l : List ℕ)
      → ((i : ℕ) → i < length l → IsLeaf (get_or l i 0) → Alike classes (get_or l i 0 / 4) b c)
      → CodesAlike classes b c l
  each_codes [] each = tt
  each_codes (v ∷ l) each = (each 0 (omega arith), each_codes l (λ i h. each (suc i) (omega arith)))
