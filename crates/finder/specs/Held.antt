-- Which words hold the marks after a text, by a test that computes.
use Rattle.std.specs.Prelude.{ℕ, ◌+◌, ◌/◌, ◌%◌, ◌^◌, ◌≡◌, refl, Bool, true, false, ◌↔◌, List, get_or, drop, eqb, ltb}
use Rattle.std.specs.Bool.{beq}
use Rattle.std.proofs.lemmas.Bool.{false≢true}
use Rattle.std.proofs.Math.Logic.Iff
use Rattle.std.proofs.Common.{eqb-true, eq-eqb, ltb-true}
use Rattle.language.specs.Tree.{Tree}
use Rattle.language.specs.Automaton.{State, start, accepting, left, right}
use Rattle.language.specs.Nested.{Nested, leaf, catenation, union, star, below, whole, Has}
use Rattle.tree.specs.Leaf.{Leaf, meaning}
use Rattle.tree.specs.Pieces.{cut_up, stated}
use Rattle.tables.specs.Words.{Bit, width, run, Marked, CleanBelow}
use Rattle.tables.specs.Tables.{Holding}
use Rattle.finder.specs.DecideExactly.{leaf_exact}
use Rattle.finder.specs.Computed.{Test, Passing, start_test, after_test, computed_models}

-- bit i of w as a test
abbrev bit : ℕ → ℕ → Bool
bit w i = eqb (w / 2 ^ i % 2) 1

-- two tests with the same answer
pub same_answer : (a b : Bool) → beq a b ≡ true → (a ≡ true) ↔ (b ≡ true)
same_answer true true e = Iff.rfl
same_answer true false e = absurd (false≢true e)
same_answer false true e = absurd (false≢true e)
same_answer false false e = Iff.rfl

-- both tests pass
unfoldable pub also : Bool → Bool → Bool
also true b = b
also false b = false

-- then each of them does
pub also_first : (a b : Bool) → also a b ≡ true → a ≡ true
unfolding also
also_first true b e = refl
also_first false b e = absurd (false≢true e)

pub also_second : (a b : Bool) → also a b ≡ true → b ≡ true
unfolding also
also_second true b e = e
also_second false b e = absurd (false≢true e)

-- the bits of a start and of an accepting state say what the test says
unfoldable pub ends : (w low high : ℕ) → Test → Bool
ends w low high f = also (beq (bit w low) (f start)) (beq (bit w high) (f accepting))

module _ (w low high : ℕ) (f : Test) (e : ends w low high f ≡ true) where
  -- a bit with the same answer as a test says what the test says
  bit_answer : (i : ℕ) (b : Bool) → beq (bit w i) b ≡ true → Bit w i ↔ (b ≡ true)
  bit_answer i b same = Iff.trans (eq-eqb (w / 2 ^ i % 2) 1, eqb-true (w / 2 ^ i % 2) 1) (same_answer (bit w i) b same)

  -- so it is at the start and at the accepting state
  at_start : Bit w low ↔ Passing f start
  unfolding ends
  at_start = bit_answer low (f start) (also_first _ _ e)

  at_accepting : Bit w high ↔ Passing f accepting
  unfolding ends
  at_accepting = bit_answer high (f accepting) (also_second _ _ e)

-- the bits of every state of x, whose own states are numbered from i
unfoldable pub agrees : {A : Type 0} → Nested A → ℕ → ℕ → List ℕ → Test → Bool
agrees (leaf a) w i ws f = ends w i (i + 1) f
agrees (catenation x y) w i ws f =
    also (ends w i (i + (1 + width x + width y)) f)
    (also (agrees x w (i + 1) ws (λ p. f (left p)))
    (agrees y w (i + (1 + width x)) (drop (run x) ws) (λ p. f (right p))))
agrees (union x y) w i ws f =
    also (ends w i (i + (1 + width x + width y)) f)
    (also (agrees x w (i + 1) ws (λ p. f (left p)))
    (agrees y w (i + (1 + width x)) (drop (run x) ws) (λ p. f (right p))))
agrees (star x) w i ws f = also (ends w i (i + (1 + width x)) f) (agrees x w (i + 1) ws (λ p. f (left p)))
agrees (below x) w i ws f = also (ends w i (i + 1) f) (agrees x (get_or ws 0 0) 0 (drop 1 ws) (λ p. f (left p)))

-- where the bits say what the test says, the words mark what passes
agrees_exactly : {A : Type 0} (x : Nested A) (w i : ℕ) (ws : List ℕ) (f : Test) → agrees x w i ws f ≡ true → (q : State)
    → Has x q → Marked x w i ws q ↔ Passing f q
unfolding agrees
agrees_exactly (leaf a) w i ws f e start has = at_start w i (i + 1) f e
agrees_exactly (leaf a) w i ws f e accepting has = at_accepting w i (i + 1) f e
agrees_exactly (leaf a) w i ws f e (left q) has = absurd has
agrees_exactly (leaf a) w i ws f e (right q) has = absurd has
agrees_exactly (catenation x y) w i ws f e start has = at_start w i _ f (also_first _ _ e)
agrees_exactly (catenation x y) w i ws f e accepting has = at_accepting w i _ f (also_first _ _ e)
agrees_exactly (catenation x y) w i ws f e (left q) has =
    agrees_exactly x w (i + 1) ws (λ p. f (left p)) (also_first _ _ (also_second _ _ e)) q has
agrees_exactly (catenation x y) w i ws f e (right q) has =
    agrees_exactly y w (i + (1 + width x)) (drop (run x) ws) (λ p. f (right p)) (also_second _ _ (also_second _ _ e)) q
    has
agrees_exactly (union x y) w i ws f e start has = at_start w i _ f (also_first _ _ e)
agrees_exactly (union x y) w i ws f e accepting has = at_accepting w i _ f (also_first _ _ e)
agrees_exactly (union x y) w i ws f e (left q) has =
    agrees_exactly x w (i + 1) ws (λ p. f (left p)) (also_first _ _ (also_second _ _ e)) q has
agrees_exactly (union x y) w i ws f e (right q) has =
    agrees_exactly y w (i + (1 + width x)) (drop (run x) ws) (λ p. f (right p)) (also_second _ _ (also_second _ _ e)) q
    has
agrees_exactly (star x) w i ws f e start has = at_start w i _ f (also_first _ _ e)
agrees_exactly (star x) w i ws f e accepting has = at_accepting w i _ f (also_first _ _ e)
agrees_exactly (star x) w i ws f e (left q) has = agrees_exactly x w (i + 1) ws (λ p. f (left p)) (also_second _ _ e) q
    has
agrees_exactly (star x) w i ws f e (right q) has = absurd has
agrees_exactly (below x) w i ws f e start has = at_start w i _ f (also_first _ _ e)
agrees_exactly (below x) w i ws f e accepting has = at_accepting w i _ f (also_first _ _ e)
agrees_exactly (below x) w i ws f e (left q) has =
    agrees_exactly x (get_or ws 0 0) 0 (drop 1 ws) (λ p. f (left p)) (also_second _ _ e) q has
agrees_exactly (below x) w i ws f e (right q) has = absurd has

-- no bit past the last state is set in the words of the child pieces below x
unfoldable pub tidy : {A : Type 0} → Nested A → List ℕ → Bool
tidy (leaf a) ws = true
tidy (catenation x y) ws = also (tidy x ws) (tidy y (drop (run x) ws))
tidy (union x y) ws = also (tidy x ws) (tidy y (drop (run x) ws))
tidy (star x) ws = tidy x ws
tidy (below x) ws = also (ltb (get_or ws 0 0) (2 ^ width x)) (tidy x (drop 1 ws))

-- where that test passes, those words are clean
tidy_clean : {A : Type 0} (x : Nested A) (ws : List ℕ) → tidy x ws ≡ true → CleanBelow x ws
unfolding tidy
tidy_clean (leaf a) ws e = tt
tidy_clean (catenation x y) ws e =
    (tidy_clean x ws (also_first _ _ e), tidy_clean y (drop (run x) ws) (also_second _ _ e))
tidy_clean (union x y) ws e = (tidy_clean x ws (also_first _ _ e), tidy_clean y (drop (run x) ws) (also_second _ _ e))
tidy_clean (star x) ws e = tidy_clean x ws e
tidy_clean (below x) ws e =
    (ltb-true (get_or ws 0 0) (2 ^ width x) (also_first _ _ e), tidy_clean x (drop 1 ws) (also_second _ _ e))

-- the words hold the marks of a tree after a text
unfoldable pub holds_after : (classes : List ℕ) → Tree Leaf → List ℕ → List ℕ → Bool
holds_after classes t text words =
    let x : Nested Leaf = cut_up t in
    also (tidy (below x) words) (agrees x (get_or words 0 0) 0 (drop 1 words)
    (after_test (meaning classes) (leaf_exact classes) x text (start_test (meaning classes) (leaf_exact classes) x)))

-- they do where the test passes
pub held_after : (classes : List ℕ) (t : Tree Leaf) (text words : List ℕ) → holds_after classes t text words ≡ true
    → Holding classes t text words
unfolding holds_after
held_after classes t text words e =
    let x : Nested Leaf = cut_up t in
    let computed = computed_models (meaning classes) (leaf_exact classes) x text in
    let same : whole x ≡ t = (stated t).same_tree in
    record {
      clean = tidy_clean (below x) words (also_first _ _ e);
      modelled = λ q has. Iff.trans (agrees_exactly x (get_or words 0 0) 0 (drop 1 words) _ (also_second _ _ e) q has)
          (rw same at (computed q has));
    }
