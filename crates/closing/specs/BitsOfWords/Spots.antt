-- Where the bit of each state stands: in which word of the run, and which bit of it. So words that agree there hold the
-- same marks.
use Rattle.std.specs.Prelude.{ℕ, zero, suc, ◌+◌, ◌-◌, ◌^◌, ◌≤◌, ◌<◌, ◌≡◌, refl, ◌⊎◌, ◌↔◌, List, [], ◌∷◌, ◌++◌, length, get_or, drop}
use Rattle.std.proofs.Common.{add_assoc, zero-add, arith, sym, ap, ◌∙◌, subst, inl, inr, ⊎_elim, length-append, get_or-drop, get_or-append-add}
use Rattle.std.proofs.Math.Decide.{dec_lt}
use Rattle.std.proofs.Math.Logic.Iff
use Rattle.std.proofs.Math.ListN.{get_or-append}
use Rattle.language.specs.Automaton.{State, start, accepting, left, right}
use Rattle.language.specs.Nested.{Nested, leaf, catenation, union, star, below, Has}
use Rattle.tables.specs.Words.{Bit, width, run, Own, number, Marked, Holds, CleanBelow, Clean}

-- a spot: a bit of the piece's own word, or a bit of one of the words below it, counted from 0
pub data Spot : Type 0 where
  own : ℕ → Spot
  under : ℕ → ℕ → Spot

-- the spot i bits and n words further
abbrev pub shift : ℕ → ℕ → Spot → Spot
shift i n (own b) = own (i + b)
shift i n (under o b) = under (n + o) b

-- the spot of a child piece, seen from the parent
abbrev pub enter : Spot → Spot
enter (own b) = under 0 b
enter (under o b) = under (suc o) b

-- the spot of each state
abbrev pub spot : {A : Type 0} → Nested A → State → Spot
spot x start = own 0
spot (leaf a) accepting = own 1
spot (catenation x y) accepting = own (1 + width x + width y)
spot (union x y) accepting = own (1 + width x + width y)
spot (star x) accepting = own (1 + width x)
spot (below x) accepting = own 1
spot (leaf a) (left q) = own 0
spot (leaf a) (right q) = own 0
spot (catenation x y) (left q) = shift 1 0 (spot x q)
spot (catenation x y) (right q) = shift (1 + width x) (run x) (spot y q)
spot (union x y) (left q) = shift 1 0 (spot x q)
spot (union x y) (right q) = shift (1 + width x) (run x) (spot y q)
spot (star x) (left q) = shift 1 0 (spot x q)
spot (star x) (right q) = own 0
spot (below x) (left q) = enter (spot x q)
spot (below x) (right q) = own 0

-- the bit of a spot is set, where the own word is w, its bits are counted from i, and the words below are ws
abbrev pub Lit : Spot → ℕ → ℕ → List ℕ → Type 0
Lit (own b) w i ws = Bit w (i + b)
Lit (under o b) w i ws = Bit (get_or ws o 0) b

-- the bit of a spot is set in the words of a run
abbrev pub SetAt : Spot → List ℕ → Type 0
SetAt (own b) words = Bit (get_or words 0 0) b
SetAt (under o b) words = Bit (get_or words (suc o) 0) b

abbrev pub iff_either : {A B C D : Type 0} → A ↔ B → C ↔ D → (A ⊎ C) ↔ (B ⊎ D)
iff_either f g = (⊎_elim (λ h. inl (f.0 h)) (λ h. inr (g.0 h)), ⊎_elim (λ h. inl (f.1 h)) (λ h. inr (g.1 h)))

pub bit_at : (w : ℕ) {i j : ℕ} → i ≡ j → Bit w i ↔ Bit w j
bit_at w e = (subst (λ (n : ℕ). Bit w n) e, subst (λ (n : ℕ). Bit w n) (sym e))

pub bit_of : {v w : ℕ} (i : ℕ) → v ≡ w → Bit v i ↔ Bit w i
bit_of i e = (subst (λ (n : ℕ). Bit n i) e, subst (λ (n : ℕ). Bit n i) (sym e))

-- the same spot
pub held_at : (words : List ℕ) {s t : Spot} → s ≡ t → SetAt s words ↔ SetAt t words
held_at words e = (subst (λ (s : Spot). SetAt s words) e, subst (λ (s : Spot). SetAt s words) (sym e))

lit_shift : (s : Spot) (w i j n : ℕ) (ws : List ℕ) → Lit s w (i + j) (drop n ws) ↔ Lit (shift j n s) w i ws
lit_shift (own b) w i j n ws = bit_at w (add_assoc i j b)
lit_shift (under o b) w i j n ws = bit_of b (get_or-drop n ws o 0)

lit_enter : (s : Spot) (w i : ℕ) (ws : List ℕ) → Lit s (get_or ws 0 0) 0 (drop 1 ws) ↔ Lit (enter s) w i ws
lit_enter (own b) w i ws = bit_at (get_or ws 0 0) (zero-add b)
lit_enter (under o b) w i ws = bit_of b (get_or-drop 1 ws o 0 ∙ ap (λ (k : ℕ). get_or ws k 0) (omega arith))

-- a state is marked exactly when the bit of its spot is set
pub marked_lit : {A : Type 0} (x : Nested A) (w i : ℕ) (ws : List ℕ) (q : State) → Has x q
    → Marked x w i ws q ↔ Lit (spot x q) w i ws
marked_lit (leaf a) w i ws start h = bit_at w (omega arith)
marked_lit (leaf a) w i ws accepting h = bit_at w refl
marked_lit (leaf a) w i ws (left q) h = absurd h
marked_lit (leaf a) w i ws (right q) h = absurd h
marked_lit (catenation x y) w i ws start h = bit_at w (omega arith)
marked_lit (catenation x y) w i ws accepting h = bit_at w refl
marked_lit (catenation x y) w i ws (left q) h =
    Iff.trans (marked_lit x w (i + 1) ws q h) (lit_shift (spot x q) w i 1 0 ws)
marked_lit (catenation x y) w i ws (right q) h =
    Iff.trans (marked_lit y w (i + (1 + width x)) (drop (run x) ws) q h)
    (lit_shift (spot y q) w i (1 + width x) (run x) ws)
marked_lit (union x y) w i ws start h = bit_at w (omega arith)
marked_lit (union x y) w i ws accepting h = bit_at w refl
marked_lit (union x y) w i ws (left q) h = Iff.trans (marked_lit x w (i + 1) ws q h) (lit_shift (spot x q) w i 1 0 ws)
marked_lit (union x y) w i ws (right q) h =
    Iff.trans (marked_lit y w (i + (1 + width x)) (drop (run x) ws) q h)
    (lit_shift (spot y q) w i (1 + width x) (run x) ws)
marked_lit (star x) w i ws start h = bit_at w (omega arith)
marked_lit (star x) w i ws accepting h = bit_at w refl
marked_lit (star x) w i ws (left q) h = Iff.trans (marked_lit x w (i + 1) ws q h) (lit_shift (spot x q) w i 1 0 ws)
marked_lit (star x) w i ws (right q) h = absurd h
marked_lit (below x) w i ws start h = bit_at w (omega arith)
marked_lit (below x) w i ws accepting h = bit_at w refl
marked_lit (below x) w i ws (left q) h =
    Iff.trans (marked_lit x (get_or ws 0 0) 0 (drop 1 ws) q h) (lit_enter (spot x q) w i ws)
marked_lit (below x) w i ws (right q) h = absurd h

lit_held : (s : Spot) (words : List ℕ) → Lit s (get_or words 0 0) 0 (drop 1 words) ↔ SetAt s words
lit_held (own b) words = bit_at (get_or words 0 0) (zero-add b)
lit_held (under o b) words = bit_of b (get_or-drop 1 words o 0 ∙ ap (λ (k : ℕ). get_or words k 0) (omega arith))

-- the words of a run hold a state exactly when the bit of its spot is set
pub holds_held : {A : Type 0} (x : Nested A) (words : List ℕ) (q : State) → Has x q
    → Holds x words q ↔ SetAt (spot x q) words
holds_held x words q h = Iff.trans (marked_lit x (get_or words 0 0) 0 (drop 1 words) q h) (lit_held (spot x q) words)

-- a spot within so many bits and so many words below
abbrev pub SpotWithin : ℕ → ℕ → Spot → Type 0
SpotWithin k m (own b) = b < k
SpotWithin k m (under o b) = o < m

within_shift : (s : Spot) (i n k m k' m' : ℕ) → i + k ≤ k' → n + m ≤ m' → SpotWithin k m s
    → SpotWithin k' m' (shift i n s)
within_shift (own b) i n k m k' m' e f h = omega arith
within_shift (under o b) i n k m k' m' e f h = omega arith

within_enter : (s : Spot) (k m k' : ℕ) → SpotWithin k m s → SpotWithin k' (1 + m) (enter s)
within_enter (own b) k m k' h = omega arith
within_enter (under o b) k m k' h = omega arith

-- each state's spot is within the piece's states and the words below it
pub spot_within : {A : Type 0} (x : Nested A) (q : State) → Has x q → SpotWithin (width x) (run x) (spot x q)
spot_within (leaf a) start h = omega arith
spot_within (leaf a) accepting h = omega arith
spot_within (leaf a) (left q) h = absurd h
spot_within (leaf a) (right q) h = absurd h
spot_within (catenation x y) start h = omega arith
spot_within (catenation x y) accepting h = omega arith
spot_within (catenation x y) (left q) h = within_shift (spot x q) 1 0 (width x) (run x) _ _ (omega arith) (omega arith)
    (spot_within x q h)
spot_within (catenation x y) (right q) h = within_shift (spot y q) (1 + width x) (run x) (width y) (run y) _ _
    (omega arith) (omega arith) (spot_within y q h)
spot_within (union x y) start h = omega arith
spot_within (union x y) accepting h = omega arith
spot_within (union x y) (left q) h = within_shift (spot x q) 1 0 (width x) (run x) _ _ (omega arith) (omega arith)
    (spot_within x q h)
spot_within (union x y) (right q) h = within_shift (spot y q) (1 + width x) (run x) (width y) (run y) _ _ (omega arith)
    (omega arith) (spot_within y q h)
spot_within (star x) start h = omega arith
spot_within (star x) accepting h = omega arith
spot_within (star x) (left q) h = within_shift (spot x q) 1 0 (width x) (run x) _ _ (omega arith) (omega arith)
    (spot_within x q h)
spot_within (star x) (right q) h = absurd h
spot_within (below x) start h = omega arith
spot_within (below x) accepting h = omega arith
spot_within (below x) (left q) h = within_enter (spot x q) (width x) (run x) 2 (spot_within x q h)
spot_within (below x) (right q) h = absurd h

-- the spot of a state of the top piece is the bit that its number says
pub own_spot : {A : Type 0} (x : Nested A) (q : State) → Own x q → spot x q ≡ own (number x q)
own_spot x start h = refl
own_spot (leaf a) accepting h = refl
own_spot (catenation x y) accepting h = refl
own_spot (union x y) accepting h = refl
own_spot (star x) accepting h = refl
own_spot (below x) accepting h = refl
own_spot (leaf a) (left q) h = absurd h
own_spot (leaf a) (right q) h = absurd h
own_spot (catenation x y) (left q) h = ap (shift 1 0) (own_spot x q h)
own_spot (catenation x y) (right q) h = ap (shift (1 + width x) (run x)) (own_spot y q h)
own_spot (union x y) (left q) h = ap (shift 1 0) (own_spot x q h)
own_spot (union x y) (right q) h = ap (shift (1 + width x) (run x)) (own_spot y q h)
own_spot (star x) (left q) h = ap (shift 1 0) (own_spot x q h)
own_spot (star x) (right q) h = absurd h
own_spot (below x) (left q) h = absurd h
own_spot (below x) (right q) h = absurd h

-- a spot in a word below the own word
abbrev pub Under : Spot → Type 0
Under (own b) = ⊥
Under (under o b) = Unit {0}

pub under_shift : (s : Spot) (i n : ℕ) → Under s → Under (shift i n s)
under_shift (own b) i n h = h
under_shift (under o b) i n h = h

pub under_enter : (s : Spot) → Under (enter s)
under_enter (own b) = tt
under_enter (under o b) = tt

-- a state is one of the top piece's own, or its spot is in a word below
pub own_or_under : {A : Type 0} (x : Nested A) (q : State) → Has x q → Own x q ⊎ Under (spot x q)
own_or_under x start h = inl tt
own_or_under (leaf a) accepting h = inl tt
own_or_under (catenation x y) accepting h = inl tt
own_or_under (union x y) accepting h = inl tt
own_or_under (star x) accepting h = inl tt
own_or_under (below x) accepting h = inl tt
own_or_under (leaf a) (left q) h = absurd h
own_or_under (leaf a) (right q) h = absurd h
own_or_under (catenation x y) (left q) h = ⊎_elim inl (λ u. inr (under_shift (spot x q) 1 0 u)) (own_or_under x q h)
own_or_under (catenation x y) (right q) h = ⊎_elim inl (λ u. inr (under_shift (spot y q) (1 + width x) (run x) u))
    (own_or_under y q h)
own_or_under (union x y) (left q) h = ⊎_elim inl (λ u. inr (under_shift (spot x q) 1 0 u)) (own_or_under x q h)
own_or_under (union x y) (right q) h = ⊎_elim inl (λ u. inr (under_shift (spot y q) (1 + width x) (run x) u))
    (own_or_under y q h)
own_or_under (star x) (left q) h = ⊎_elim inl (λ u. inr (under_shift (spot x q) 1 0 u)) (own_or_under x q h)
own_or_under (star x) (right q) h = absurd h
own_or_under (below x) (left q) h = inr (under_enter (spot x q))
own_or_under (below x) (right q) h = absurd h

-- the spot of the start
abbrev pub InFirstWord : Spot → Type 0
InFirstWord (own b) = b ≡ 0
InFirstWord (under o b) = ⊥

not_first : (s : Spot) (i n : ℕ) → InFirstWord (shift (1 + i) n s) → ⊥
not_first (own b) i n h = omega arith
not_first (under o b) i n h = h

under_not_first : (s : Spot) → InFirstWord (enter s) → ⊥
under_not_first (own b) h = h
under_not_first (under o b) h = h

-- no other state has the start's spot
pub first_start : {A : Type 0} (x : Nested A) (q : State) → Has x q → InFirstWord (spot x q) → q ≡ start
first_start x start h e = refl
first_start (leaf a) accepting h e = absurd (omega arith)
first_start (catenation x y) accepting h e = absurd (omega arith)
first_start (union x y) accepting h e = absurd (omega arith)
first_start (star x) accepting h e = absurd (omega arith)
first_start (below x) accepting h e = absurd (omega arith)
first_start (leaf a) (left q) h e = absurd h
first_start (leaf a) (right q) h e = absurd h
first_start (catenation x y) (left q) h e = absurd (not_first (spot x q) 0 0 e)
first_start (catenation x y) (right q) h e = absurd (not_first (spot y q) (width x) (run x) e)
first_start (union x y) (left q) h e = absurd (not_first (spot x q) 0 0 e)
first_start (union x y) (right q) h e = absurd (not_first (spot y q) (width x) (run x) e)
first_start (star x) (left q) h e = absurd (not_first (spot x q) 0 0 e)
first_start (star x) (right q) h e = absurd h
first_start (below x) (left q) h e = absurd (under_not_first (spot x q) e)
first_start (below x) (right q) h e = absurd h

-- how many states each piece below the top piece has, in the order of the words
abbrev pub widths : {A : Type 0} → Nested A → List ℕ
widths (leaf a) = []
widths (catenation x y) = widths x ++ widths y
widths (union x y) = widths x ++ widths y
widths (star x) = widths x
widths (below x) = width x ∷ widths x

pub length_widths : {A : Type 0} (x : Nested A) → length (widths x) ≡ run x
length_widths (leaf a) = refl
length_widths (catenation x y) = omega (arith, length-append (widths x) (widths y), length_widths x, length_widths y)
length_widths (union x y) = omega (arith, length-append (widths x) (widths y), length_widths x, length_widths y)
length_widths (star x) = length_widths x
length_widths (below x) = omega (arith, length_widths x)

-- each of the first m words is below the power of two that the widths say
abbrev pub Bounded : ℕ → List ℕ → List ℕ → Type 0
Bounded m ws widths = (o : ℕ) → o < m → get_or ws o 0 < 2 ^ get_or widths o 0

pub getD_left : {A : Type 0} (x y : Nested A) (o : ℕ) → o < run x → get_or (widths x ++ widths y) o 0
    ≡ get_or (widths x) o 0
getD_left x y o h = get_or-append (widths x) (widths y) 0 o (omega (arith, length_widths x))

pub getD_right : {A : Type 0} (x y : Nested A) (o : ℕ) → get_or (widths x ++ widths y) (run x + o) 0 ≡ get_or (widths y) o 0
getD_right x y o = ap (λ (k : ℕ). get_or (widths x ++ widths y) (k + o) 0) (sym (length_widths x))
    ∙ get_or-append-add (widths x) (widths y) o 0

pub below_power : {v v' : ℕ} {k k' : ℕ} → v' ≡ v → k' ≡ k → v < 2 ^ k → v' < 2 ^ k'
below_power {v} {v'} {k} {k'} e f h = rw (e, f) h

-- two nodes side by side
pub bounded_both : {A : Type 0} (x y : Nested A) (ws : List ℕ)
    → (Bounded (run x) ws (widths x) × Bounded (run y) (drop (run x) ws) (widths y))
    ↔ Bounded (run x + run y) ws (widths x ++ widths y)
bounded_both x y ws = (join, λ h. (split_left h, split_right h))
  where
    join : Bounded (run x) ws (widths x) × Bounded (run y) (drop (run x) ws) (widths y)
        → Bounded (run x + run y) ws (widths x ++ widths y)
    join h o l = elim (dec_lt o (run x)) [
      | yes k ↦ below_power refl (getD_left x y o k) (h.0 o k)
      | no k ↦
          below_power (ap (λ (n : ℕ). get_or ws n 0) (omega arith) ∙ sym (get_or-drop (run x) ws (o - run x) 0))
          (ap (λ (n : ℕ). get_or (widths x ++ widths y) n 0) (omega arith) ∙ getD_right x y (o - run x))
          (h.1 (o - run x) (omega arith))
    ]

    split_left : Bounded (run x + run y) ws (widths x ++ widths y) → Bounded (run x) ws (widths x)
    split_left h o l = below_power refl (sym (getD_left x y o l)) (h o (omega arith))

    split_right : Bounded (run x + run y) ws (widths x ++ widths y) → Bounded (run y) (drop (run x) ws) (widths y)
    split_right h o l = below_power (get_or-drop (run x) ws o 0) (sym (getD_right x y o)) (h (run x + o) (omega arith))

-- a child piece's own word, and those below it
pub bounded_child : {A : Type 0} (x : Nested A) (ws : List ℕ)
    → ((get_or ws 0 0 < 2 ^ width x) × Bounded (run x) (drop 1 ws) (widths x))
    ↔ Bounded (1 + run x) ws (width x ∷ widths x)
bounded_child x ws = (join, λ h. (h 0 (omega arith), below h))
  where
    join : (get_or ws 0 0 < 2 ^ width x) × Bounded (run x) (drop 1 ws) (widths x)
        → Bounded (1 + run x) ws (width x ∷ widths x)
    join h zero l = h.0
    join h (suc o) l = below_power (ap (λ (n : ℕ). get_or ws n 0) (omega arith) ∙ sym (get_or-drop 1 ws o 0)) refl
        (h.1 o (omega arith))

    below : Bounded (1 + run x) ws (width x ∷ widths x) → Bounded (run x) (drop 1 ws) (widths x)
    below h o l = below_power (get_or-drop 1 ws o 0 ∙ ap (λ (n : ℕ). get_or ws n 0) (omega arith)) refl
        (h (suc o) (omega arith))

-- the words of the child pieces have no bit past the last state exactly when each is below its power of two
pub clean_bounded : {A : Type 0} (x : Nested A) (ws : List ℕ) → CleanBelow x ws ↔ Bounded (run x) ws (widths x)
clean_bounded (leaf a) ws = (λ _ o l. absurd (omega arith), λ _. tt)
clean_bounded (catenation x y) ws = Iff.trans (Iff.and (clean_bounded x ws) (clean_bounded y (drop (run x) ws)))
    (bounded_both x y ws)
clean_bounded (union x y) ws = Iff.trans (Iff.and (clean_bounded x ws) (clean_bounded y (drop (run x) ws)))
    (bounded_both x y ws)
clean_bounded (star x) ws = clean_bounded x ws
clean_bounded (below x) ws = Iff.trans (Iff.and Iff.rfl (clean_bounded x (drop 1 ws))) (bounded_child x ws)

-- the words of a run have no bit past the last state exactly when each is below its power of two
pub clean_words : {A : Type 0} (x : Nested A) (words : List ℕ)
    → Clean x words ↔ Bounded (1 + run x) words (width x ∷ widths x)
clean_words x words = Iff.trans (Iff.and Iff.rfl (clean_bounded x (drop 1 words))) (bounded_child x words)
