-- Refusal 13's test by the rows: each word has no bit past its last state, and each child piece's bits are those of
-- its stand-in.
use Rattle.std.specs.Prelude.{ℕ, ◌+◌, ◌*◌, ◌^◌, ◌≤◌, ◌<◌, ◌≡◌, refl, Bool, ◌↔◌, List, length, get_or, drop}
use Rattle.std.proofs.Common.{sym, ap, ◌∙◌, subst, subst₂, add-zero, arith, get_or-drop, drop-drop}
use Rattle.std.proofs.Math.Path.{subst₃}
use Rattle.std.proofs.Math.Decide.{ℕ_discrete}
use Rattle.language.specs.Automaton.{accepting}
use Rattle.language.specs.Nested.{Nested, leaf, catenation, union, star, below}
use Rattle.tree.specs.Leaf.{Leaf}
use Rattle.tables.specs.Words.{Bit, width, run, number, CleanBelow, Clean, Agreeing}
use Rattle.tree.specs.Limits.{most_states}
use Rattle.tables.specs.Plan.{row_words, run_of, stand_of, top_of, PieceAt, ChildrenAt, Planned}
use Rattle.closing.specs.BitsOfWords.Numbers.{width_two, number_accepting}
use Rattle.closing.specs.BitsOfWords.Bits.{Tells}
use Rattle.stepping.specs.SharedStates.Parents.{
  Parent,
  parent_unique,
  EveryChild,
  hanging_child,
  every_of_all,
  all_of_every,
}
use Rattle.stepping.specs.SharedStates.Agreed.{Pairs, agreeing_pairs}

-- a child piece's word has no bit past its last state, numbered top, and its start and accepting state have the bits of
-- their stand-in above
pub record PairAgrees (above stand word top : ℕ) : Type 0 where
  pub small : word < 2 ^ (top + 1)
  pub starts : Bit above stand ↔ Bit word 0
  pub ends : Bit above (stand + 1) ↔ Bit word top

-- the child piece c of the piece k is such
abbrev pub AgreesAt : (rows words : List ℕ) (k c : ℕ) → Type 0
AgreesAt rows words k c = PairAgrees (get_or words k 0) (stand_of rows c) (get_or words c 0) (top_of rows c)

-- the child piece c is such, whichever piece it hangs below
pub record ChildAgrees (rows words : List ℕ) (c : ℕ) : Type 0 where
  pub agrees : (k : ℕ) → Parent rows c k → AgreesAt rows words k c

-- every word of the n pieces is right
pub record AllAgree (rows words : List ℕ) (n : ℕ) : Type 0 where
  pub top_small : get_or words 0 0 < 2 ^ (top_of rows 0 + 1)
  pub children : (c : ℕ) → 0 < c → c < n → ChildAgrees rows words c

-- the test of the one piece that a child piece hangs below tells it, by the numbers that were read
pub told_child : {rows words : List ℕ} {c k stand top : ℕ} {answer : Bool} → Parent rows c k
    → stand ≡ stand_of rows c → top ≡ top_of rows c
    → Tells (PairAgrees (get_or words k 0) stand (get_or words c 0) top) answer
    → Tells (ChildAgrees rows words c) answer
told_child {rows} {words} {c} {k} p stood topped told = record {
  holds = λ e. record {
    agrees = λ l q. subst (λ (n : ℕ). AgreesAt rows words n c) (parent_unique p q)
        (subst₂ (λ (s t : ℕ). PairAgrees (get_or words k 0) s (get_or words c 0) t) stood topped (told.holds e));
  };
  fails = λ e h. told.fails e
      (subst₂ (λ (s t : ℕ). PairAgrees (get_or words k 0) s (get_or words c 0) t) (sym stood) (sym topped)
      (h.agrees _ p));
}

-- there is a row and a word for each of the n pieces, and the numbers in the rows are those of a word's
-- bits
pub record Checkable (rows words : List ℕ) (n : ℕ) : Type 0 where
  pub some : 0 < n
  pub root_run : run_of rows 0 ≡ n
  pub rows_long : row_words * n ≤ length rows
  pub words_long : n ≤ length words
  pub low_stands : (c : ℕ) → 0 < c → c < n → stand_of rows c < most_states
  pub low_tops : (c : ℕ) → c < n → top_of rows c < most_states

-- the same, by the tree: of x, a part of a piece with the word w whose states are numbered from i, and with the words
-- ws below it
abbrev Fit : Nested Leaf → (w i : ℕ) → List ℕ → Type 0
Fit x w i ws = CleanBelow x ws × Pairs x w i ws

-- with equal words
fit_at : (x : Nested Leaf) (i : ℕ) {w v : ℕ} {us ws : List ℕ} → w ≡ v → us ≡ ws → Fit x w i us → Fit x v i ws
fit_at x i e f h = subst₂ (λ (w : ℕ) (ws : List ℕ). Fit x w i ws) e f h

-- the word at the beginning of what is left of the words
first_left : (l : List ℕ) (k : ℕ) → get_or (drop k l) 0 0 ≡ get_or l k 0
first_left l k = get_or-drop k l 0 0 ∙ ap (λ (i : ℕ). get_or l i 0) (add-zero k)

module _ (rows : List ℕ) (words : List ℕ) where
  -- a child piece agrees with the piece above it
  abbrev AgreesAbove : ℕ → ℕ → Type 0
  AgreesAbove = AgreesAt rows words

  -- a piece's width, by the number of its last state
  topped : (x : Nested Leaf) (k : ℕ) → PieceAt rows x k → top_of rows k + 1 ≡ width x
  topped x k at = omega (arith, width_two x, at.topped)

  -- the number of its last state is that of its accepting state
  last : (x : Nested Leaf) (k : ℕ) → PieceAt rows x k → top_of rows k ≡ number x accepting
  last x k at = omega (arith, topped x k at, number_accepting x)

  -- two parts side by side
  two_fit : (x y : Nested Leaf) (w i j k new : ℕ)
      → EveryChild AgreesAbove x k new ↔ Fit x w i (drop new words) → EveryChild AgreesAbove y k (new + run x)
      ↔ Fit y w j (drop (new + run x) words)
      → (EveryChild AgreesAbove x k new × EveryChild AgreesAbove y k (new + run x))
      ↔ ((CleanBelow x (drop new words) × CleanBelow y (drop (run x) (drop new words)))
      × (Pairs x w i (drop new words) × Pairs y w j (drop (run x) (drop new words))))
  two_fit x y w i j k new f g = (
    λ h. let a = f.0 h.0 in
        let b = fit_at y j refl (sym (drop-drop (run x) new words)) (g.0 h.1) in
        ((a.0, b.0), (a.1, b.1)),
    λ h. (f.1 (h.0.0, h.1.0), g.1 (fit_at y j refl (drop-drop (run x) new words) (h.0.1, h.1.1))),
  )

  -- a child piece
  module _ (x : Nested Leaf) (i k new : ℕ) (stood : stand_of rows new ≡ i) (at : PieceAt rows x new) where
    own_word : get_or (drop new words) 0 0 ≡ get_or words new 0
    own_word = first_left words new

    -- a child piece's own word is right, by the tree
    abbrev ChildFit : Type 0
    ChildFit = (get_or (drop new words) 0 0 < 2 ^ width x)
        × (Bit (get_or words k 0) i ↔ Bit (get_or (drop new words) 0 0) 0)
        × (Bit (get_or words k 0) (i + 1) ↔ Bit (get_or (drop new words) 0 0) (number x accepting))

    -- by the rows it is right exactly when it is by the tree
    child_fit : AgreesAbove k new ↔ ChildFit
    child_fit = (
      λ h. (
        subst₂ (λ (v n : ℕ). v < 2 ^ n) (sym own_word) (topped x new at) h.small,
        subst₂ (λ (v n : ℕ). Bit (get_or words k 0) n ↔ Bit v 0) (sym own_word) stood h.starts,
        subst₃ (λ (v n l : ℕ). Bit (get_or words k 0) (n + 1) ↔ Bit v l) (sym own_word) stood (last x new at) h.ends,
      ),
      λ h. record {
        small = subst₂ (λ (v n : ℕ). v < 2 ^ n) own_word (sym (topped x new at)) h.0;
        starts = subst₂ (λ (v n : ℕ). Bit (get_or words k 0) n ↔ Bit v 0) own_word (sym stood) h.1;
        ends = subst₃ (λ (v n l : ℕ). Bit (get_or words k 0) (n + 1) ↔ Bit v l) own_word (sym stood) (sym (last x new at))
            h.2;
      },
    )

    -- and so with the pieces below it
    below_fit : EveryChild AgreesAbove x new (new + 1) ↔ Fit x (get_or words new 0) 0 (drop (new + 1) words)
        → (AgreesAbove k new × EveryChild AgreesAbove x new (new + 1))
        ↔ Fit (below x) (get_or words k 0) i (drop new words)
    below_fit f = (
      λ h. let a = child_fit.0 h.0 in
          let b = fit_at x 0 (sym own_word) (sym (drop-drop 1 new words)) (f.0 h.1) in
          ((a.0, b.0), (a.1, a.2, b.1)),
      λ h. (
        child_fit.1 (h.0.0, h.1.0, h.1.1),
        f.1 (fit_at x 0 own_word (drop-drop 1 new words) (h.0.1, h.1.2)),
      ),
    )

  -- every child piece below x is right by the rows exactly when it is by the tree
  every_fit : (x : Nested Leaf) (i k new : ℕ) → ChildrenAt rows x i new
      → EveryChild AgreesAbove x k new ↔ Fit x (get_or words k 0) i (drop new words)
  every_fit (leaf a) i k new at = (λ h. (tt, tt), λ h. tt)
  every_fit (catenation x y) i k new at =
      two_fit x y (get_or words k 0) (i + 1) (i + (1 + width x)) k new (every_fit x (i + 1) k new at.0)
      (every_fit y (i + (1 + width x)) k (new + run x) at.1)
  every_fit (union x y) i k new at =
      two_fit x y (get_or words k 0) (i + 1) (i + (1 + width x)) k new (every_fit x (i + 1) k new at.0)
      (every_fit y (i + (1 + width x)) k (new + run x) at.1)
  every_fit (star x) i k new at = every_fit x (i + 1) k new at
  every_fit (below x) i k new at = below_fit x i k new at.0 at.1 (every_fit x 0 new (new + 1) at.2)

  -- the whole test
  pub all_agree : (x : Nested Leaf) (n : ℕ) → Planned rows x → 1 + run x ≡ n
      → AllAgree rows words n ↔ (Clean x words × Agreeing x words)
  all_agree x n at size = (
    λ h. let fit = (every_fit x 0 0 1 at.1).0
        (every_of_all rows AgreesAbove x 0 0 1 at.1 (hanging_child rows x at.0)
        (λ c l m. (h.children c (omega arith) (omega arith)).agrees)) in (
          (subst (λ (m : ℕ). get_or words 0 0 < 2 ^ m) (topped x 0 at.0) h.top_small, fit.0),
          (agreeing_pairs x words).1 fit.1,
        ),
    λ h. record {
      top_small = subst (λ (m : ℕ). get_or words 0 0 < 2 ^ m) (sym (topped x 0 at.0)) h.0.0;
      children = λ c l m. record {
        agrees = all_of_every rows AgreesAbove x 0 0 1 at.1 (hanging_child rows x at.0)
            ((every_fit x 0 0 1 at.1).1 (h.0.1, (agreeing_pairs x words).0 h.1)) c (omega arith) (omega arith);
      };
    },
  )

-- one child piece more
pub children_more : {rows words : List ℕ} {n : ℕ}
    → ((c : ℕ) → 0 < c → c < n → ChildAgrees rows words c)
    → ChildAgrees rows words n → (c : ℕ) → 0 < c → c < n + 1 → ChildAgrees rows words c
children_more {rows} {words} {n} h k c l m = elim (ℕ_discrete c n) [
  | yes e ↦ subst (λ (i : ℕ). ChildAgrees rows words i) (sym e) k
  | no e ↦ h c l (omega arith)
]

-- the answer for the words by the rows is the answer for the marks
pub told_all : {rows words : List ℕ} {n : ℕ} {answer : Bool} → Tells (AllAgree rows words n) answer
    → (x : Nested Leaf) → Planned rows x → 1 + run x ≡ n → Tells (Clean x words × Agreeing x words) answer
told_all {rows} {words} {n} told x at size =
    let same = all_agree rows words x n at size in
    record { holds = λ a. same.0 (told.holds a); fails = λ a h. told.fails a (same.1 h) }
