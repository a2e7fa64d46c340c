-- Parts of a table, entry by entry, and the rows that a piece's nodes have there.
use Rattle.std.specs.Prelude.{ℕ, ◌+◌, ◌≤◌, ◌<◌, ◌≡◌, refl, List, [], ◌∷◌, ◌++◌, length, get_or, set}
use Rattle.std.proofs.Common.{sym, ap, subst, ◌∙◌, arith, length-append, length-set, get_or-set_same, get_or-set_other}
use Rattle.language.specs.Nested.{Nested, leaf, catenation, union, star, below}
use Rattle.tree.specs.Leaf.{Leaf}
use Rattle.tables.specs.Words.{width}
use Rattle.tables.specs.Plan.{leads_on, jumps_to, leads_and_jumps, leaf_code, codes_of, takes}

-- the list l stands in the table from the entry `at` on
pub data Lies (entries : List ℕ) : ℕ → List ℕ → Type 0 where
  ends : {at : ℕ} → Lies entries at []
  entry : {at v : ℕ} {l : List ℕ} → get_or entries at 0 ≡ v → Lies entries (at + 1) l → Lies entries at (v ∷ l)

-- told with another form of the place
pub lies_at : {entries : List ℕ} {at to : ℕ} {l : List ℕ} → Lies entries at l → at ≡ to → Lies entries to l
lies_at {entries} {l = l} h e = subst (λ (k : ℕ). Lies entries k l) e h

-- told with another form of the list
pub lies_is : {entries : List ℕ} {at : ℕ} {l m : List ℕ} → Lies entries at l → l ≡ m → Lies entries at m
lies_is {entries} {at} h e = subst (λ (k : List ℕ). Lies entries at k) e h

-- one part behind another
pub lies_append : {entries : List ℕ} {at to : ℕ} {l m : List ℕ} → Lies entries at l → Lies entries to m
    → at + length l ≡ to
    → Lies entries at (l ++ m)
lies_append ends g e = lies_at g (omega arith)
lies_append (entry v h) g e = entry v (lies_append h g (omega arith))

-- a part stands still where none of its entries changes
pub lies_same : {entries : List ℕ} (after : List ℕ) {at : ℕ} {l : List ℕ} → Lies entries at l
    → ((j : ℕ) → at ≤ j → j < at + length l → get_or after j 0 ≡ get_or entries j 0) → Lies after at l
lies_same after ends same = ends
lies_same after {at} (entry v h) same =
    entry (same at (omega arith) (omega arith) ∙ v)
    (lies_same after h (λ j low high. same j (omega arith) (omega arith)))

-- the codes of x's states but for that of the accepting state
abbrev pub fronts : Nested Leaf → ℕ → List ℕ
fronts (leaf a) i = leaf_code a ∷ []
fronts (catenation x y) i = leads_on ∷ (codes_of x (i + 1) leads_on ++ codes_of y (i + (1 + width x)) leads_on)
fronts (union x y) i =
    leads_and_jumps (i + (1 + width x)) ∷ (codes_of x (i + 1) (jumps_to (i + (1 + width x + width y)))
    ++ codes_of y (i + (1 + width x)) leads_on)
fronts (star x) i = leads_and_jumps (i + (1 + width x)) ∷ codes_of x (i + 1) (leads_and_jumps (i + 1))
fronts (below x) i = 0 ∷ []

-- the code of the accepting state comes last
pub codes_fronts : (x : Nested Leaf) (i exit : ℕ) → codes_of x i exit ≡ fronts x i ++ (exit ∷ [])
codes_fronts (leaf a) i exit = refl
codes_fronts (catenation x y) i exit = refl
codes_fronts (union x y) i exit = refl
codes_fronts (star x) i exit = refl
codes_fronts (below x) i exit = refl

-- one code for each state
pub length_codes : (x : Nested Leaf) (i exit : ℕ) → length (codes_of x i exit) ≡ width x
length_codes (leaf a) i exit = refl
length_codes (catenation x y) i exit = let e = length_codes x in let g =
    length_codes y in simp (length-append, e, g) (omega arith)
length_codes (union x y) i exit = let e = length_codes x in let g =
    length_codes y in simp (length-append, e, g) (omega arith)
length_codes (star x) i exit = let e = length_codes x in simp (length-append, e) (omega arith)
length_codes (below x) i exit = refl

-- one code for each state but the accepting one
pub length_fronts : (x : Nested Leaf) (i : ℕ) → length (fronts x i) + 1 ≡ width x
length_fronts x i = sym (length-append (fronts x i) (0 ∷ [])) ∙ ap length (sym (codes_fronts x i 0))
    ∙ length_codes x i 0

-- one leaf's number for each state
pub length_takes : (x : Nested Leaf) → length (takes x) ≡ width x
length_takes (leaf a) = refl
length_takes (catenation x y) = let e = length_takes x in let g =
    length_takes y in simp (length-append, e, g) (omega arith)
length_takes (union x y) = let e = length_takes x in let g = length_takes y in simp (length-append, e, g) (omega arith)
length_takes (star x) = let e = length_takes x in simp (length-append, e) (omega arith)
length_takes (below x) = refl

-- a state for the start and one for accepting at least
pub wide : (x : Nested Leaf) → 2 ≤ width x
wide (leaf a) = omega arith
wide (catenation x y) = omega arith
wide (union x y) = omega arith
wide (star x) = omega arith
wide (below x) = omega arith

-- a table with three entries set
abbrev pub thrice : List ℕ → (a b c u v w : ℕ) → List ℕ
thrice entries a b c u v w = set (set (set entries a u) b v) c w

module _ (entries : List ℕ) (a b c u v w : ℕ) where
  -- an entry that was not set
  pub thrice_other : (j : ℕ) → (j ≡ a → ⊥) → (j ≡ b → ⊥) → (j ≡ c → ⊥) → get_or (thrice entries a b c u v w) j 0
      ≡ get_or entries j 0
  thrice_other j not_a not-b not-c = get_or-set_other (set (set entries a u) b v) c j w 0 not-c
      ∙ get_or-set_other (set entries a u) b j v 0 not-b ∙ get_or-set_other entries a j u 0 not_a

  -- the entry set first, where it was not set again
  pub thrice_first : a < length entries → (a ≡ b → ⊥) → (a ≡ c → ⊥) → get_or (thrice entries a b c u v w) a 0 ≡ u
  thrice_first fits not-b not-c = get_or-set_other (set (set entries a u) b v) c a w 0 not-c
      ∙ get_or-set_other (set entries a u) b a v 0 not-b ∙ get_or-set_same entries a u 0 fits

  -- the entry set second
  pub thrice_second : b < length entries → (b ≡ c → ⊥) → get_or (thrice entries a b c u v w) b 0 ≡ v
  thrice_second fits not-c = get_or-set_other (set (set entries a u) b v) c b w 0 not-c
      ∙ get_or-set_same (set entries a u) b v 0 (simp length-set fits)

  -- the entry set last
  pub thrice_third : c < length entries → get_or (thrice entries a b c u v w) c 0 ≡ w
  thrice_third fits = get_or-set_same (set (set entries a u) b v) c w 0 (simp length-set fits)
