-- What places the nodes have that a sign adds, and what its copies have; and what holds of every written place holds of
-- every place of the tree that the signs stand for.
use Rattle.std.specs.Prelude.{ℕ, zero, suc, ◌-◌, ◌<◌, ◌≡◌, refl, List, [], ◌∷◌, ◌++◌, length, get_or}
use Rattle.std.proofs.Common.{ap, arith}
use Rattle.language.specs.Tree.{Tree}
use Rattle.language.specs.SignedTree.{SignedTree, leaf, catenation, union, star, one_or_more, optional, counted}
use Rattle.language.specs.PlacedTree.{PlacedTree, unplaced, places, all_at}
use Rattle.language.specs.PlacedStandsFor.{placed_followed, placed_perhaps, placed_times, placed_stands_for}
use Rattle.language.specs.EachPlace.{Each, EachWritten}

module _ {A : Type 0} (empty : A) (place : ℕ) (s : SignedTree A) where
  -- `+`: its operand, a copy of it, and then the star and the catenation with the sign's place
  pub plus_places : places (placed_stands_for empty (one_or_more place s))
      ≡ places (placed_stands_for empty s) ++ (places (placed_stands_for empty s) ++ (place ∷ [])) ++ (place ∷ [])
  plus_places = refl

  -- `?`: its operand, and then the empty text and the union with the sign's place
  pub question_places : places (placed_stands_for empty (optional place s))
      ≡ places (placed_stands_for empty s) ++ (place ∷ []) ++ (place ∷ [])
  question_places = refl

  -- `{1,1}`: its operand alone
  pub once_places : places (placed_stands_for empty (counted place 1 1 s)) ≡ places (placed_stands_for empty s)
  once_places = refl

  -- `{1,2}`: its operand, a copy of it with the `?` at the sign's place, and the catenation there
  pub perhaps_twice_places : places (placed_stands_for empty (counted place 1 2 s))
      ≡ places (placed_stands_for empty s)
      ++ (places (placed_stands_for empty s) ++ (place ∷ []) ++ (place ∷ [])) ++ (place ∷ [])
  perhaps_twice_places = refl

-- trees that differ only in places are the same tree
pub unplaced_all_at : {A : Type 0} (place : ℕ) (x : PlacedTree A) → unplaced (all_at place x) ≡ unplaced x
unplaced_all_at place (PlacedTree.leaf own a) = refl
unplaced_all_at place (PlacedTree.catenation own s t) = rw (unplaced_all_at place s, unplaced_all_at place t) refl
unplaced_all_at place (PlacedTree.union own s t) = rw (unplaced_all_at place s, unplaced_all_at place t) refl
unplaced_all_at place (PlacedTree.star own s) = ap Tree.star (unplaced_all_at place s)

module _ (P : ℕ → Type 0) where
  -- of each number by its position
  pub each_at : (list : List ℕ) → Each P list → (r : ℕ) → r < length list → P (get_or list r 0)
  each_at [] each r h = absurd (omega arith)
  each_at (a ∷ list) each zero h = each.0
  each_at (a ∷ list) each (suc r) h = each_at list each.1 r (omega arith)

  -- of two lists, one behind the other
  each_both : (first second : List ℕ) → Each P first → Each P second → Each P (first ++ second)
  each_both [] second each all = all
  each_both (a ∷ first) second each all = (each.0, each_both first second each.1 all)

  -- of a list with one more number behind it
  each_last : (list : List ℕ) (a : ℕ) → Each P list → P a → Each P (list ++ (a ∷ []))
  each_last list a each p = each_both list (a ∷ []) each (p, tt)

  -- of two lists with one more number behind them
  each_two : (first second : List ℕ) (a : ℕ) → Each P first → Each P second → P a
      → Each P (first ++ second ++ (a ∷ []))
  each_two first second a each all p = each_last (first ++ second) a (each_both first second each all) p

  module _ {A : Type 0} (place : ℕ) (p : P place) where
    -- x follows t
    each_followed : (t x : PlacedTree A) (n : ℕ) → Each P (places t) → Each P (places x)
        → Each P (places (placed_followed place t n x))
    each_followed t x zero first each = first
    each_followed t x (suc n) first each =
        each_two (places (placed_followed place t n x)) (places x) place (each_followed t x n first each) each p

    -- a `?`
    each_perhaps : (empty : A) (x : PlacedTree A) → Each P (places x)
        → Each P (places (placed_perhaps empty place x))
    each_perhaps empty x each = each_two (places x) (place ∷ []) place each (p, tt) p

    -- a count
    each_times : (empty : A) (fewest most : ℕ) (x : PlacedTree A) → Each P (places x)
        → Each P (places (placed_times empty place fewest most x))
    each_times empty zero most x each =
        each_followed (placed_perhaps empty place x) (placed_perhaps empty place x) (most - 1)
        (each_perhaps empty x each) (each_perhaps empty x each)
    each_times empty (suc m) most x each =
        each_followed (placed_followed place x m x) (placed_perhaps empty place x) (most - suc m)
        (each_followed x x m each each) (each_perhaps empty x each)

  module _ {A : Type 0} (empty : A) where
    -- the places of what s stands for
    abbrev sign_places : SignedTree A → List ℕ
    sign_places s = places (placed_stands_for empty s)

    -- the result: what holds of every written place holds of every place of what the signs stand for
    pub each_stands_for : (s : SignedTree A) → EachWritten P s → Each P (places (placed_stands_for empty s))
    each_stands_for (leaf place a) p = (p, tt)
    each_stands_for (catenation place s t) (p, first, second) =
        each_two (sign_places s) (sign_places t) place (each_stands_for s first) (each_stands_for t second) p
    each_stands_for (union place s t) (p, first, second) =
        each_two (sign_places s) (sign_places t) place (each_stands_for s first) (each_stands_for t second) p
    each_stands_for (star place s) (p, each) = each_last (sign_places s) place (each_stands_for s each) p
    each_stands_for (one_or_more place s) (p, each) =
        let all = each_stands_for s each in
        each_two (sign_places s) (sign_places s ++ (place ∷ [])) place all (each_last (sign_places s) place all p) p
    each_stands_for (optional place s) (p, each) =
        each_perhaps place p empty (placed_stands_for empty s) (each_stands_for s each)
    each_stands_for (counted place fewest most s) (p, each) =
        each_times place p empty fewest most (placed_stands_for empty s) (each_stands_for s each)

-- what follows from P holds of each too
pub each_also : (P Q : ℕ → Type 0) → ((n : ℕ) → P n → Q n) → (list : List ℕ) → Each P list → Each Q list
each_also P Q so [] each = tt
each_also P Q so (a ∷ list) each = (so a each.0, each_also P Q so list each.1)
