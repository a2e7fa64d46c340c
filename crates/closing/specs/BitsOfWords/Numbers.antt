-- The states of a piece's own tree are numbered from 0 with no gap and no number twice.
use Rattle.std.specs.Prelude.{ℕ, zero, suc, ◌+◌, ◌≤◌, ◌<◌, ◌≡◌, List, [], ◌∷◌, ◌++◌, map, length}
use Rattle.std.proofs.Math.Path.{refl, sym, ap}
use Rattle.std.proofs.Common.{◌∙◌, arith}
use Rattle.std.proofs.Math.ListN.{get_or, get_or-map}
use Rattle.std.proofs.lemmas.List.{length-map}
use Rattle.language.specs.Automaton.{State, start, accepting, left, right}
use Rattle.language.specs.Nested.{Nested, leaf, catenation, union, star, below}
use Rattle.tables.specs.Words.{width, Own, number}
use Rattle.closing.specs.BitsOfWords.NodeParts.{
  one_length,
  one_inside,
  one_end,
  two_length,
  two_left,
  two_right,
  two_end,
  at_start,
  in_left,
  in_right,
  at_end,
  place,
}

-- within a list the default does not matter
any_default : {A : Type 0} (l : List A) (i : ℕ) (d d' : A) → i < length l → get_or l i d ≡ get_or l i d'
any_default [] i d d' h = absurd (omega arith)
any_default (a ∷ l) zero d d' h = refl
any_default (a ∷ l) (suc i) d d' h = any_default l i d d' (omega arith)

module _ {A : Type 0} where
  -- there are at least two states
  pub width_two : (x : Nested A) → 2 ≤ width x
  width_two (leaf a) = omega arith
  width_two (catenation x y) = omega arith
  width_two (union x y) = omega arith
  width_two (star x) = omega arith
  width_two (below x) = omega arith

  -- the accepting state has the last number
  pub number_accepting : (x : Nested A) → number x accepting + 1 ≡ width x
  number_accepting (leaf a) = refl
  number_accepting (catenation x y) = refl
  number_accepting (union x y) = refl
  number_accepting (star x) = refl
  number_accepting (below x) = refl

  -- every number is below the width
  pub number_below : (x : Nested A) (q : State) → Own x q → number x q < width x
  number_below x start o = omega (arith, width_two x)
  number_below x accepting o = omega (arith, number_accepting x)
  number_below (catenation x y) (left q) o = omega (arith, number_below x q o)
  number_below (catenation x y) (right q) o = omega (arith, number_below y q o)
  number_below (union x y) (left q) o = omega (arith, number_below x q o)
  number_below (union x y) (right q) o = omega (arith, number_below y q o)
  number_below (star x) (left q) o = omega (arith, number_below x q o)
  number_below (leaf _) (left q) o = elim o [ ]
  number_below (below _) (left q) o = elim o [ ]
  number_below (leaf _) (right q) o = elim o [ ]
  number_below (star x) (right q) o = elim o [ ]
  number_below (below _) (right q) o = elim o [ ]

  -- every number below the width is some state's
  pub number_onto : (x : Nested A) (i : ℕ) → i < width x → (q : State) × Own x q × (number x q ≡ i)
  number_onto (leaf a) zero h = (start, tt, refl)
  number_onto (leaf a) (suc i) h = (accepting, tt, omega arith)
  number_onto (catenation x y) i h = elim (place (width x) (width y) i h) [
    | at_start e ↦ (start, tt, sym e)
    | in_left j l e ↦ let r = number_onto x j l in (left r.0, r.1, ap (λ (k : ℕ). 1 + k) r.2 ∙ e)
    | in_right j l e ↦ let r = number_onto y j l in (right r.0, r.1, ap (λ (k : ℕ). 1 + width x + k) r.2 ∙ e)
    | at_end e ↦ (accepting, tt, e)
  ]
  number_onto (union x y) i h = elim (place (width x) (width y) i h) [
    | at_start e ↦ (start, tt, sym e)
    | in_left j l e ↦ let r = number_onto x j l in (left r.0, r.1, ap (λ (k : ℕ). 1 + k) r.2 ∙ e)
    | in_right j l e ↦ let r = number_onto y j l in (right r.0, r.1, ap (λ (k : ℕ). 1 + width x + k) r.2 ∙ e)
    | at_end e ↦ (accepting, tt, e)
  ]
  number_onto (star x) i h = elim (place (width x) 0 i (omega arith)) [
    | at_start e ↦ (start, tt, sym e)
    | in_left j l e ↦ let r = number_onto x j l in (left r.0, r.1, ap (λ (k : ℕ). 1 + k) r.2 ∙ e)
    | in_right j l e ↦ absurd (omega arith)
    | at_end e ↦ (accepting, tt, omega arith)
  ]
  number_onto (below x) zero h = (start, tt, refl)
  number_onto (below x) (suc i) h = (accepting, tt, omega arith)

  -- the states in the order of their numbers
  abbrev pub states : Nested A → List State
  states (leaf a) = start ∷ accepting ∷ []
  states (catenation x y) = start ∷ (map left (states x) ++ map right (states y) ++ (accepting ∷ []))
  states (union x y) = start ∷ (map left (states x) ++ map right (states y) ++ (accepting ∷ []))
  states (star x) = start ∷ (map left (states x) ++ (accepting ∷ []))
  states (below x) = start ∷ accepting ∷ []

  -- as many as the width says
  pub length_states : (x : Nested A) → length (states x) ≡ width x
  length_states (leaf a) = refl
  length_states (catenation x y) =
      two_length start accepting (map left (states x)) (map right (states y))
      (length-map (states x) left ∙ length_states x) (length-map (states y) right ∙ length_states y)
  length_states (union x y) =
      two_length start accepting (map left (states x)) (map right (states y))
      (length-map (states x) left ∙ length_states x) (length-map (states y) right ∙ length_states y)
  length_states (star x) =
      one_length start accepting (map left (states x)) (length-map (states x) left ∙ length_states x)
  length_states (below x) = refl

  -- seen from the node above, they are as many
  mapped_length : (e : State → State) (x : Nested A) → length (map e (states x)) ≡ width x
  mapped_length e x = length-map (states x) e ∙ length_states x

  -- the state q stands at its number in the list
  Stands : Nested A → State → Type 0
  Stands x q = get_or (states x) (number x q) start ≡ q

  -- seen from the node above, a state stands at the same number
  mapped : (e : State → State) (x : Nested A) (q : State) → Own x q → Stands x q
      → get_or (map e (states x)) (number x q) start ≡ e q
  unfolding Stands
  mapped e x q o h =
      any_default (map e (states x)) (number x q) start (e start) (omega (arith, mapped_length e x, number_below x q o))
      ∙ get_or-map e (states x) (number x q) start ∙ ap e h

  module _ (x y : Nested A) where
    -- the states of a node of two parts
    two_states : List State
    two_states = start ∷ (map left (states x) ++ map right (states y) ++ (accepting ∷ []))

    -- a state of the first part stands at its number
    left_stands : (q : State) → Own x q → Stands x q → get_or two_states (1 + number x q) start ≡ left q
    unfolding two_states
    left_stands q o h =
        two_left start accepting (map left (states x)) (map right (states y)) (mapped_length left x)
        (mapped_length right y) start (number x q) (number_below x q o)
        ∙ mapped left x q o h

    -- a state of the second part does
    right_stands : (q : State) → Own y q → Stands y q → get_or two_states (1 + width x + number y q) start ≡ right q
    unfolding two_states
    right_stands q o h =
        two_right start accepting (map left (states x)) (map right (states y)) (mapped_length left x)
        (mapped_length right y) start (number y q) (number_below y q o)
        ∙ mapped right y q o h

    -- the accepting state does
    end_stands : get_or two_states (1 + width x + width y) start ≡ accepting
    unfolding two_states
    end_stands = two_end start accepting (map left (states x)) (map right (states y)) (mapped_length left x)
        (mapped_length right y) start

  -- a state stands at its number
  stands : (x : Nested A) (q : State) → Own x q → Stands x q
  unfolding Stands two_states
  stands (leaf a) start o = refl
  stands (leaf a) accepting o = refl
  stands (catenation x y) start o = refl
  stands (catenation x y) accepting o = end_stands x y
  stands (catenation x y) (left q) o = left_stands x y q o (stands x q o)
  stands (catenation x y) (right q) o = right_stands x y q o (stands y q o)
  stands (union x y) start o = refl
  stands (union x y) accepting o = end_stands x y
  stands (union x y) (left q) o = left_stands x y q o (stands x q o)
  stands (union x y) (right q) o = right_stands x y q o (stands y q o)
  stands (star x) start o = refl
  stands (star x) accepting o = one_end start accepting (map left (states x)) (mapped_length left x) start
  stands (star x) (left q) o =
      one_inside start accepting (map left (states x)) (mapped_length left x) start (number x q) (number_below x q o)
      ∙ mapped left x q o (stands x q o)
  stands (below x) start o = refl
  stands (below x) accepting o = refl
  stands (leaf a) (left q) o = elim o [ ]
  stands (leaf a) (right q) o = elim o [ ]
  stands (star x) (right q) o = elim o [ ]
  stands (below x) (left q) o = elim o [ ]
  stands (below x) (right q) o = elim o [ ]

  -- two states of one number are one
  pub number_injective : (x : Nested A) (p q : State) → Own x p → Own x q → number x p ≡ number x q → p ≡ q
  unfolding Stands
  number_injective x p q o₁ o₂ e = sym (stands x p o₁) ∙ ap (λ (i : ℕ). get_or (states x) i start) e ∙ stands x q o₂
