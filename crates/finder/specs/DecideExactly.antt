-- The test for membership says exactly whether a text lies in the language.
use Rattle.std.specs.Prelude.{ℕ, zero, suc, ◌≤◌, ◌≡◌, Bool, true, false, ◌&&◌, ◌||◌, ◌↔◌, ◌⊎◌, length}
use Rattle.std.proofs.Math.Path.{refl}
use Rattle.std.proofs.Common.{sym, ap, arith, length-append, eqb-true, eq-eqb}
use Rattle.std.proofs.lemmas.Bool.{false≢true}
use Rattle.std.proofs.Math.Bool.{or-true}
use Rattle.std.proofs.Math.Logic.{inl, inr, ⊎_elim}
use mathlib.Core.List.{List, [], ◌∷◌, ◌++◌}
use Rattle.language.specs.Tree.{Tree, leaf, catenation, union, star}
use Rattle.language.specs.Meaning.{Meaning}
use Rattle.language.specs.Language.{Repeated, none, more, Language}
use Rattle.tree.specs.Leaf.{Leaf, character, class, empty_text, meaning, Matches}
use Rattle.finder.specs.Decide.{
  any_split,
  any_repeat,
  leaf_text,
  Tests,
  matched,
  takes_byte,
  leaf_tests,
  matches,
}

-- both tests pass
pub both : (a b : Bool) → (a && b) ≡ true → (a ≡ true) × (b ≡ true)
both true b e = (refl, e)
both false b e = absurd (false≢true e)

-- one of the tests passes
either : (a b : Bool) → (a || b) ≡ true → (a ≡ true) ⊎ (b ≡ true)
either true b e = inl refl
either false b e = inr e

-- a split that passes the test, found in the text
pub record Split (test : List ℕ → List ℕ → Bool) (w : List ℕ) : Type 0 where
  pub head : List ℕ
  pub tail : List ℕ
  pub joined : w ≡ head ++ tail
  pub passes : test head tail ≡ true

-- a split of what follows a byte is a split with that byte in front
split_later : {test : List ℕ → List ℕ → Bool} {b : ℕ} {w : List ℕ} → Split (λ u v. test (b ∷ u) v) w
    → Split test (b ∷ w)
split_later {b = b} r =
    record { head = b ∷ r.head; tail = r.tail; joined = ap (λ (l : List ℕ). b ∷ l) r.joined; passes = r.passes }

-- where the test for splits passes, a split passes: here, or after the first byte
split_found : (test : List ℕ → List ℕ → Bool) (w : List ℕ) → any_split test w ≡ true → Split test w
unfolding any_split
split_found test [] e = record { head = []; tail = []; joined = refl; passes = e }
split_found test (b ∷ w) e =
    ⊎_elim
    (λ p. record { head = []; tail = b ∷ w; joined = refl; passes = p })
    (λ p. split_later (split_found (λ u v. test (b ∷ u) v) w p))
    (either (test [] (b ∷ w)) (any_split (λ u v. test (b ∷ u) v) w) e)

-- a split that passes is found
split_passes : (test : List ℕ → List ℕ → Bool) (u v : List ℕ) → test u v ≡ true → any_split test (u ++ v) ≡ true
unfolding any_split
split_passes test [] [] e = e
split_passes test [] (b ∷ v) e = rw e
split_passes test (b ∷ u) v e = rw (split_passes (λ x y. test (b ∷ x) y) u v e) (or-true (test [] (b ∷ (u ++ v))))

-- what passes the repeated test is made of texts that pass it
repeat_found : (test : List ℕ → Bool) (n : ℕ) (w : List ℕ) → any_repeat test n w ≡ true
    → Repeated (λ u. test u ≡ true) w
unfolding any_repeat
repeat_found test zero [] e = none
repeat_found test zero (b ∷ w) e = absurd (false≢true e)
repeat_found test (suc n) [] e = none
repeat_found test (suc n) (b ∷ w) e =
    let r = split_found (λ u v. test (b ∷ u) && any_repeat test n v) w e in
    let (p, q) = both (test (b ∷ r.head)) (any_repeat test n r.tail) r.passes in
    let made : Repeated (λ u. test u ≡ true) (b ∷ (r.head ++ r.tail)) = more p (repeat_found test n r.tail q) in
    rw r.joined made

-- no bytes are made of no texts
repeat_empty : (test : List ℕ → Bool) (n : ℕ) → any_repeat test n [] ≡ true
unfolding any_repeat
repeat_empty test zero = refl
repeat_empty test (suc n) = refl

-- one more text in front: an empty one changes nothing, another has a first byte
repeat_more : (test : List ℕ → Bool) (u v : List ℕ) (n : ℕ) → test u ≡ true
    → ((m : ℕ) → length v ≤ m → any_repeat test m v ≡ true) → length (u ++ v) ≤ n → any_repeat test n (u ++ v) ≡ true
unfolding any_repeat
repeat_more test [] v n p others h = others n h
repeat_more test (b ∷ u) v zero p others h = absurd (omega arith)
repeat_more test (b ∷ u) v (suc n) p others h =
    split_passes (λ x y. test (b ∷ x) && any_repeat test n y) u v (rw (p, others n (omega (arith, length-append u v))))

-- what is made of texts that pass the test passes the repeated test
repeat_passes : (test : List ℕ → Bool) {w : List ℕ} → Repeated (λ u. test u ≡ true) w → (n : ℕ) → length w ≤ n
    → any_repeat test n w ≡ true
repeat_passes test none = λ n h. repeat_empty test n
repeat_passes test (more {u = u} {v = v} p r) = λ n h. repeat_more test u v n p (repeat_passes test r) h

-- a repetition of texts that are also in another language
repeated_more : {L M : List ℕ → Type 0} → ((w : List ℕ) → L w → M w) → {w : List ℕ} → Repeated L w → Repeated M w
repeated_more sub none = none
repeated_more sub (more {u = u} p r) = more (sub u p) (repeated_more sub r)

-- tests that say exactly what the leaves mean
pub record Exact {A : Type 0} (M : Meaning A) : Type 0 where
  pub tests : Tests A
  pub takes_exactly : (a : A) (b : ℕ) → (tests.takes a b ≡ true) ↔ M.Takes a b
  pub empty_exactly : (a : A) → (tests.has_empty a ≡ true) ↔ M.HasEmpty a

module _ {A : Type 0} (M : Meaning A) (exact : Exact M) where
  -- the test for membership, by the tests on the leaves
  abbrev member_test : Tree A → List ℕ → Bool
  member_test = matched exact.tests

  -- a text of one byte that the leaf takes lies in its language, and so does the empty text where the leaf has it
  leaf_found : (a : A) (w : List ℕ) → leaf_text (exact.tests.takes a) (exact.tests.has_empty a) w ≡ true
      → Language M (leaf a) w
  unfolding leaf_text
  leaf_found a [] e = inr (refl, (exact.empty_exactly a).0 e)
  leaf_found a (b ∷ []) e = inl (b, refl, (exact.takes_exactly a b).0 e)
  leaf_found a (b ∷ c ∷ w) e = absurd (false≢true e)

  -- a text that passes lies in the language
  matched_found : (t : Tree A) (w : List ℕ) → member_test t w ≡ true → Language M t w
  unfolding matched
  matched_found (leaf a) w e = leaf_found a w e
  matched_found (catenation s t) w e =
      let r = split_found (λ u v. member_test s u && member_test t v) w e in
      let (p, q) = both (member_test s r.head) (member_test t r.tail) r.passes in
      (r.head, r.tail, r.joined, matched_found s r.head p, matched_found t r.tail q)
  matched_found (union s t) w e =
      ⊎_elim (λ p. inl (matched_found s w p)) (λ p. inr (matched_found t w p))
      (either (member_test s w) (member_test t w) e)
  matched_found (star s) w e = repeated_more (matched_found s) (repeat_found (member_test s) (length w) w e)

  -- a text of the language passes
  matched_passes : (t : Tree A) (w : List ℕ) → Language M t w → member_test t w ≡ true
  unfolding matched leaf_text
  matched_passes (leaf a) w (inl (b, e, h)) = rw e ((exact.takes_exactly a b).1 h)
  matched_passes (leaf a) w (inr (e, h)) = rw e ((exact.empty_exactly a).1 h)
  matched_passes (catenation s t) w (u, v, e, p, q) =
      rw e (split_passes (λ x y. member_test s x && member_test t y) u v
      (rw (matched_passes s u p, matched_passes t v q)))
  matched_passes (union s t) w (inl p) = rw (matched_passes s w p)
  matched_passes (union s t) w (inr q) = rw (matched_passes t w q) (or-true (member_test s w))
  matched_passes (star s) w r = repeat_passes (member_test s) (repeated_more (matched_passes s) r) (length w)
      (omega arith)

  -- the test says exactly whether the text lies in the language
  pub matched_exactly : (t : Tree A) (w : List ℕ) → (member_test t w ≡ true) ↔ Language M t w
  matched_exactly t w = (matched_found t w, matched_passes t w)

module _ (classes : List ℕ) where
  -- a leaf of an expression's tree takes exactly the bytes that its test says
  pub takes_exactly : (a : Leaf) (b : ℕ) → (takes_byte classes a b ≡ true) ↔ (meaning classes).Takes a b
  takes_exactly (character c) b = (eqb-true c b, eq-eqb c b)
  takes_exactly (class k) b = (eqb-true _ 1, eq-eqb _ 1)
  takes_exactly empty_text b = (λ e. absurd (false≢true e), λ takes. absurd takes)

  -- the tests on such a leaf say exactly what it means
  abbrev pub leaf_exact : Exact (meaning classes)
  leaf_exact = record {
    tests = leaf_tests classes;
    takes_exactly = takes_exactly;
    empty_exactly = λ a. (λ e. e, λ e. e);
  }

  -- the test says exactly whether a text lies in the language of an expression's tree
  pub matches_exactly : (t : Tree Leaf) (w : List ℕ) → (matches classes t w ≡ true) ↔ Matches classes t w
  matches_exactly = matched_exactly (meaning classes) leaf_exact

  -- an answer that is yes exactly when the text lies in the language is this one
  pub matches_answer : (test : Bool) (t : Tree Leaf) (w : List ℕ) → (test ≡ true) ↔ Matches classes t w
      → test ≡ matches classes t w
  matches_answer true t w says = sym ((matches_exactly t w).1 (says.0 refl))
  matches_answer false t w says = go (matches classes t w) refl
    where
      go : (other : Bool) → matches classes t w ≡ other → false ≡ other
      go true e = absurd (false≢true (says.1 ((matches_exactly t w).0 e)))
      go false e = refl
