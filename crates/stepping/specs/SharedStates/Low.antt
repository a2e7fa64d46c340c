-- Where every piece has at most 62 states, the numbers of stand-ins and of last states in the rows are those of bits
-- of a word.
use Rattle.std.specs.Prelude.{ℕ, zero, suc, ◌+◌, ◌*◌, ◌≤◌, ◌<◌, ◌≡◌, List, length}
use Rattle.std.proofs.Common.{sym, subst, arith}
use Rattle.std.proofs.Math.Decide.{ℕ_discrete, dec_lt}
use Rattle.language.specs.Nested.{Nested, leaf, catenation, union, star, below}
use Rattle.tree.specs.Limits.{most_states}
use Rattle.tree.specs.Leaf.{Leaf}
use Rattle.tables.specs.Words.{width, run}
use Rattle.tables.specs.Plan.{row_words, stand_of, top_of, ChildrenAt, Planned}
use Rattle.closing.specs.BitsOfWords.Numbers.{width_two}
use Rattle.closing.specs.Passes.Laid.{NarrowBelow}
use Rattle.stepping.specs.SharedStates.WordsChecked.{Checkable}

module _ (rows : List ℕ) where
  -- the numbers of the child piece c are low
  pub record Low (c : ℕ) : Type 0 where
    pub stand : stand_of rows c < most_states
    pub top : top_of rows c < most_states

  -- those of each child piece below x, a part of a piece of at most 62 states
  low_below : (x : Nested Leaf) (i new : ℕ) → ChildrenAt rows x i new → i + width x ≤ most_states → NarrowBelow x
      → (c : ℕ) → new ≤ c → c < new + run x → Low c
  low_below (leaf a) i new at narrow low c h l = absurd (omega arith)
  low_below (catenation x y) i new at narrow low c h l = elim (dec_lt c (new + run x)) [
    | yes s ↦ low_below x (i + 1) new at.0 (omega arith) low.0 c h s
    | no s ↦ low_below y (i + (1 + width x)) (new + run x) at.1 (omega arith) low.1 c (omega arith) (omega arith)
  ]
  low_below (union x y) i new at narrow low c h l = elim (dec_lt c (new + run x)) [
    | yes s ↦ low_below x (i + 1) new at.0 (omega arith) low.0 c h s
    | no s ↦ low_below y (i + (1 + width x)) (new + run x) at.1 (omega arith) low.1 c (omega arith) (omega arith)
  ]
  low_below (star x) i new at narrow low c h l = low_below x (i + 1) new at (omega arith) low c h l
  low_below (below x) i new at narrow low c h l = elim (ℕ_discrete c new) [
    | yes e ↦ subst Low (sym e) record {
      stand = omega (arith, at.0);
      top =
          omega (arith, at.1.topped, low.0, width_two x);
    }
    | no s ↦ low_below x 0 (new + 1) at.2 (omega (arith, low.0)) low.1 c (omega arith) (omega arith)
  ]

  module _ (x : Nested Leaf) (n : ℕ) (planned : Planned rows x) (size : 1 + run x ≡ n)
      (narrow : width x ≤ most_states) (narrow_below : NarrowBelow x) where
    -- those of each child piece
    pub low_children : (c : ℕ) → 0 < c → c < n → Low c
    low_children c h l = low_below x 0 1 planned.1 (omega arith) narrow_below c h (omega arith)

    -- the numbers of all last states
    pub low_tops : (c : ℕ) → c < n → top_of rows c < most_states
    low_tops zero l = omega (arith, planned.0.topped, width_two x)
    low_tops (suc c) l = (low_children (suc c) (omega arith) l).top

    -- so the words can be tested for refusal 13
    pub checkable : (words : List ℕ) → row_words * n ≤ length rows → n ≤ length words → Checkable rows words n
    checkable words enough long = record {
      some = omega arith;
      root_run = omega (arith, planned.0.ran);
      rows_long = enough;
      words_long = long;
      low_stands = λ c h l. (low_children c h l).stand;
      low_tops = low_tops;
    }
