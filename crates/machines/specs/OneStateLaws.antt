-- Texts that lead to one state have the same continuations, and where nothing is left, nothing comes back.
use Rattle.std.specs.Prelude.{ℕ, ◌≡◌, true, ◌↔◌, List, [], ◌∷◌, ◌++◌}
use Rattle.std.proofs.Common.{arith, subst, sym, append-nil}
use Rattle.std.proofs.Math.Logic.Iff
use Rattle.std.proofs.Math.Seq.{append_snoc}
use Rattle.language.specs.Tree.{Tree}
use Rattle.language.specs.Automaton.{State, accepting, States, Started, Stepped}
use Rattle.language.specs.Simulation.{none_left}
use Rattle.language.proofs.Acceptance.{accepts_exactly}
use Rattle.language.proofs.AlongText.{after_step}
use Rattle.language.specs.TakenAsOne.{NotToldApart}
use Rattle.tree.specs.Leaf.{Leaf, character, class, has_empty, TakesByte, meaning, Matches}
use Rattle.machines.specs.Explored.{MarksAfter, NothingAfter, OneState}
use Rattle.language.specs.TakenAsOneLaws.{
  taken_same,
  taken_back,
  taken_along,
  taken_alike,
  told_same,
  stepped_by_either,
  stepped_from_either,
}

-- the leaf of the empty text takes no byte, and no other has the empty text
takes_or_empty : (classes : List ℕ) (a : Leaf) (b : ℕ) → TakesByte classes a b → has_empty a ≡ true → ⊥
takes_or_empty classes (character c) b takes has = let z : ◌≡◌ {A = ℕ} 0 1 = cc in omega arith
takes_or_empty classes (class k) b takes has = let z : ◌≡◌ {A = ℕ} 0 1 = cc in omega arith
takes_or_empty classes Rattle.tree.specs.Leaf.empty_text b takes has = elim takes [ ]

module _ (classes : List ℕ) (t : Tree Leaf) where
  -- a text leads to the state that it leads to
  pub one_state_same : (w : List ℕ) → OneState classes t w w
  one_state_same w = taken_same (meaning classes) t (MarksAfter classes t w)

  -- in either order
  pub one_state_back : (v w : List ℕ) → OneState classes t v w → OneState classes t w v
  one_state_back v w one = taken_back (meaning classes) one

  -- and along a third text
  pub one_state_along : (u v w : List ℕ) → OneState classes t u v → OneState classes t v w → OneState classes t u w
  one_state_along u v w one other = taken_along (meaning classes) one other

  -- the marks after one byte more: a step with that byte
  marks_step : (w : List ℕ) (b : ℕ) (q : State)
      → MarksAfter classes t (w ++ (b ∷ [])) q ↔ Stepped (meaning classes) t b (MarksAfter classes t w) q
  marks_step w b q =
      let same = after_step (meaning classes) t w b (Started (meaning classes) t) in
      (subst (λ (X : States). X q) same, subst (λ (X : States). X q) (sym same))

  -- the result of one step: from one state, bytes that no leaf tells apart lead to the same marks
  pub same_marks : (v w : List ℕ) (b c : ℕ) → OneState classes t v w → NotToldApart (meaning classes) t b c
      → (q : State) → MarksAfter classes t (v ++ (b ∷ [])) q ↔ MarksAfter classes t (w ++ (c ∷ [])) q
  same_marks v w b c one alike q =
      let M = meaning classes in
      Iff.trans (marks_step v b q)
      (Iff.trans (stepped_from_either M (takes_or_empty classes) one b q)
      (Iff.trans (stepped_by_either M t b c alike (MarksAfter classes t w) q) (Iff.symm (marks_step w c q))))

  -- so they lead to one state
  pub one_state_step : (v w : List ℕ) (b c : ℕ) → OneState classes t v w → NotToldApart (meaning classes) t b c
      → OneState classes t (v ++ (b ∷ [])) (w ++ (c ∷ []))
  one_state_step v w b c one alike = taken_alike (meaning classes) t (same_marks v w b c one alike)

  -- and where one of them leaves nothing, the other does not either
  pub nothing_step : (v w : List ℕ) (b c : ℕ) → OneState classes t v w → NotToldApart (meaning classes) t b c
      → NothingAfter classes t (v ++ (b ∷ [])) → NothingAfter classes t (w ++ (c ∷ []))
  nothing_step v w b c one alike nothing q marked = nothing q ((same_marks v w b c one alike q).1 marked)

  -- where nothing is left, nothing is left after one byte more
  pub nothing_further : (w : List ℕ) (b : ℕ) → NothingAfter classes t w → NothingAfter classes t (w ++ (b ∷ []))
  nothing_further w b nothing q marked =
      none_left (meaning classes) t b nothing q ((marks_step w b q).0 marked)

  -- nor after any text more
  pub nothing_after_more : (w v : List ℕ) → NothingAfter classes t w → NothingAfter classes t (w ++ v)
  nothing_after_more w [] nothing = rw append-nil nothing
  nothing_after_more w (b ∷ v) nothing =
      rw append_snoc at (nothing_after_more (w ++ (b ∷ [])) v (nothing_further w b nothing))

  -- where nothing is left, the text is not of the language
  pub nothing_not_matched : (w : List ℕ) → NothingAfter classes t w → Matches classes t w → ⊥
  nothing_not_matched w nothing matched = nothing accepting ((accepts_exactly (meaning classes) t w).1 matched)

  -- texts that lead to one state are both of the language, or both not
  pub one_state_matched : (v w : List ℕ) → OneState classes t v w → Matches classes t v ↔ Matches classes t w
  one_state_matched v w one =
      let M = meaning classes in
      Iff.trans (Iff.symm (accepts_exactly M t v)) (Iff.trans one.accepts (accepts_exactly M t w))

  -- texts that lead to one state do so after the same text more
  pub one_state_after : (v w u : List ℕ) → OneState classes t v w → OneState classes t (v ++ u) (w ++ u)
  one_state_after v w [] one = rw (append-nil v, append-nil w) one
  one_state_after v w (b ∷ u) one =
      rw (append_snoc v b u, append_snoc w b u) at
      (one_state_after (v ++ (b ∷ [])) (w ++ (b ∷ [])) u
      (one_state_step v w b b one (told_same (meaning classes) t b)))

  -- the result: texts that lead to one state have the same continuations
  pub same_continuations : (v w u : List ℕ) → OneState classes t v w
      → Matches classes t (v ++ u) ↔ Matches classes t (w ++ u)
  same_continuations v w u one = one_state_matched (v ++ u) (w ++ u) (one_state_after v w u one)
