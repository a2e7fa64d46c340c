-- Where all states were found, no more can be: there is one such end only, and all that was found before is its front.
use Rattle.std.specs.Prelude.{ℕ, ◌+◌, ◌*◌, ◌≤◌, ◌<◌, ◌≡◌, refl, List, [], ◌∷◌, ◌++◌, length}
use Rattle.std.proofs.Common.{arith, ap, sym, ◌∙◌, append-nil, append_assoc, length-append}
use Rattle.std.proofs.Math.Decide.{dec_lt, dec_le}
use Rattle.language.specs.Tree.{Tree}
use Rattle.tree.specs.Leaf.{Leaf}
use Rattle.machines.specs.Explored.{tried, Explored, at_start, to_nothing, to_known, to_new, FoundAllStates}
use Rattle.machines.specs.Leading.{Stage}
use Rattle.machines.specs.ExploredFacts.{one_more}
use Rattle.machines.specs.ExploredLaws.{last_tried, front_length, same_found}

module _ (classes : List ℕ) (t : Tree Leaf) (firsts : List ℕ) where
  -- the last stage is what was found
  last_stage : {texts : List (List ℕ)} {entries : List ℕ} → Explored classes t firsts texts entries
      → (n : ℕ) → length entries ≡ n → Stage classes t firsts texts entries n
  last_stage {texts} {entries} e n long = record {
    earlier = texts;
    later = [];
    front = entries;
    rest = [];
    explored = e;
    count = long;
    texts_are = sym (append-nil texts);
    entries_are = sym (append-nil entries);
  }

  -- a stage stays one when more is found
  stage_kept : {a b : List (List ℕ)} {d e : List ℕ} {n : ℕ} (more : List (List ℕ)) (rest : List ℕ)
      → b ≡ a ++ more → e ≡ d ++ rest → Stage classes t firsts a d n → Stage classes t firsts b e n
  stage_kept more rest texts entries s = record {
    earlier = s.earlier;
    later = s.later ++ more;
    front = s.front;
    rest = s.rest ++ rest;
    explored = s.explored;
    count = s.count;
    texts_are = texts ∙ ap (λ (l : List (List ℕ)). l ++ more) s.texts_are
        ∙ append_assoc s.earlier s.later more;
    entries_are = entries ∙ ap (λ (l : List ℕ). l ++ rest) s.entries_are
        ∙ append_assoc s.front s.rest rest;
  }

  -- one entry more: the stages before it, and the last one
  stage_grown : {a b : List (List ℕ)} {d : List ℕ} (more : List (List ℕ)) (entry : ℕ) → b ≡ a ++ more
      → Explored classes t firsts b (d ++ (entry ∷ []))
      → ((n : ℕ) → n ≤ length d → Stage classes t firsts a d n)
      → (n : ℕ) → n ≤ length (d ++ (entry ∷ [])) → Stage classes t firsts b (d ++ (entry ∷ [])) n
  stage_grown {d = d} more entry texts whole before n within = elim (dec_le n (length d)) [
    | yes h ↦ stage_kept more (entry ∷ []) texts refl (before n h)
    | no h ↦ last_stage whole n (omega (arith, one_more d entry))
  ]

  -- there was a stage for each number of texts that were tried
  stage : {texts : List (List ℕ)} {entries : List ℕ} → Explored classes t firsts texts entries
      → (n : ℕ) → n ≤ length entries → Stage classes t firsts texts entries n
  stage at_start n within = last_stage at_start n (omega arith)
  stage (to_nothing {texts} e some nothing) n within =
      stage_grown [] 0 (sym (append-nil texts)) (to_nothing e some nothing) (λ m h. stage e m h) n within
  stage (to_known {texts} e some left i there one) n within =
      stage_grown [] (1 + i) (sym (append-nil texts)) (to_known e some left i there one) (λ m h. stage e m h) n within
  stage (to_new {texts} {entries} e some left none) n within =
      stage_grown (tried classes t firsts texts (length entries) ∷ []) (1 + length texts) refl
      (to_new e some left none) (λ m h. stage e m h) n within

  -- the result on what was found before: the texts and entries of the shorter are the front of those of the longer
  pub front_of_longer : {a b : List (List ℕ)} {d e : List ℕ} → Explored classes t firsts a d
      → Explored classes t firsts b e → length d ≤ length e
      → ((more : List (List ℕ)) × (b ≡ a ++ more)) × ((rest : List ℕ) × (e ≡ d ++ rest))
  front_of_longer {d = d} x y within =
      let s = stage y (length d) within in
      let (texts, entries) = same_found classes t firsts s.explored x s.count in (
        (s.later, s.texts_are ∙ ap (λ (l : List (List ℕ)). l ++ s.later) texts),
        (s.rest, s.entries_are ∙ ap (λ (l : List ℕ). l ++ s.rest) entries),
      )

  -- where all states were found, no text is left to try
  none_beyond : {a b : List (List ℕ)} {d e : List ℕ} → FoundAllStates classes t firsts a d
      → Explored classes t firsts b e → length e ≡ 1 + length d → ⊥
  none_beyond {a} {d = d} all y longer =
      let l = last_tried classes t firsts y (omega arith) in
      let long : length l.front ≡ length d = omega (arith, front_length classes t firsts l) in
      let (texts, entries) = same_found classes t firsts l.explored all.explored long in
      let more : length d < length a * length firsts = rw (texts, entries) at l.to_try in
      omega (arith, all.over)

  -- so no more texts can be tried
  pub all_found_longest : {a b : List (List ℕ)} {d e : List ℕ} → FoundAllStates classes t firsts a d
      → Explored classes t firsts b e → length e ≤ length d
  all_found_longest {d = d} {e = e} all y = elim (dec_lt (length d) (length e)) [
    | yes h ↦
        let s = stage y (1 + length d) (omega arith) in
        absurd (none_beyond all s.explored s.count)
    | no h ↦ omega arith
  ]

  -- the result on the end: it is one only
  pub all_found_once : {a b : List (List ℕ)} {d e : List ℕ} → FoundAllStates classes t firsts a d
      → FoundAllStates classes t firsts b e → (a ≡ b) × (d ≡ e)
  all_found_once {d = d} {e = e} all other =
      same_found classes t firsts all.explored other.explored
      (omega (arith, all_found_longest all other.explored, all_found_longest other all.explored))

  -- and has at least as many texts as were found at any time
  pub all_found_most : {a b : List (List ℕ)} {d e : List ℕ} → FoundAllStates classes t firsts a d
      → Explored classes t firsts b e → length b ≤ length a
  all_found_most {a} {b} {d} {e} all y =
      let ((more, is), rest) = front_of_longer y all.explored (all_found_longest all y) in
      rw is (simp length-append (omega arith))
