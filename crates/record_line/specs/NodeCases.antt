-- The word for a kind and what a record holds, by the tests that the code makes.
use Rattle.std.specs.Prelude.{ℕ, ◌-◌, ◌≤◌, ◌<◌, ◌≡◌, List, ◌++◌, length}
use Rattle.std.proofs.Math.Path.{refl, ap}
use Rattle.std.proofs.Common.{sym, ◌∙◌, arith}
use borrow.Author.Tests.{lt-ltb, le-ltb}
use Rattle.tree.specs.Layout.{kind_at, character_at, left_at, right_at, piece_at, place_at}
use Rattle.operands.specs.Text.{bytes}
use Rattle.printing.specs.Digits.{digits}
use Rattle.showing.specs.Shown.{shown_byte, spaces}
use Rattle.record_line.specs.Node.{column, column_width, kind_word, pair, holds, numbers_of, node_of}

module _ (kind : ℕ) where
  pub word_character : kind < 2 → kind_word kind ≡ bytes "character "
  unfolding kind_word
  word_character h = rw (lt-ltb kind 2 h) refl

  pub word_catenation : 2 ≤ kind → kind < 3 → kind_word kind ≡ bytes "catenation of "
  unfolding kind_word
  word_catenation k h = rw (le-ltb kind 2 k, lt-ltb kind 3 h) refl

  pub word_union : 3 ≤ kind → kind < 4 → kind_word kind ≡ bytes "union of "
  unfolding kind_word
  word_union k h = rw (le-ltb kind 2 (omega arith), le-ltb kind 3 k, lt-ltb kind 4 h) refl

  pub word_star : 4 ≤ kind → kind < 5 → kind_word kind ≡ bytes "star of "
  unfolding kind_word
  word_star k h = rw (le-ltb kind 2 (omega arith), le-ltb kind 3 (omega arith), le-ltb kind 4 k, lt-ltb kind 5 h) refl

  pub word_class : 5 ≤ kind → kind < 6 → kind_word kind ≡ bytes "class "
  unfolding kind_word
  word_class k h =
      rw (
        le-ltb kind 2 (omega arith),
        le-ltb kind 3 (omega arith),
        le-ltb kind 4 (omega arith),
        le-ltb kind 5 k,
        lt-ltb kind 6 h,
      )
      refl

  pub word_empty : 6 ≤ kind → kind_word kind ≡ bytes "empty text"
  unfolding kind_word
  word_empty k =
      rw (
        le-ltb kind 2 (omega arith),
        le-ltb kind 3 (omega arith),
        le-ltb kind 4 (omega arith),
        le-ltb kind 5 (omega arith),
        le-ltb kind 6 k,
      )
      refl

module _ (list : List ℕ) (i : ℕ) where
  pub holds_character : kind_at list i < 2 → holds list i ≡ shown_byte (character_at list i)
  unfolding holds
  holds_character h = rw (lt-ltb (kind_at list i) 2 h) refl

  pub holds_pair : 2 ≤ kind_at list i → kind_at list i < 4 → holds list i ≡ pair (left_at list i) (right_at list i)
  unfolding holds
  holds_pair k h = rw (le-ltb (kind_at list i) 2 k, lt-ltb (kind_at list i) 4 h) refl

  pub holds_number : 4 ≤ kind_at list i → kind_at list i < 6 → holds list i ≡ digits (left_at list i)
  unfolding holds
  holds_number k h =
      rw (le-ltb (kind_at list i) 2 (omega arith), le-ltb (kind_at list i) 4 k, lt-ltb (kind_at list i) 6 h) refl

-- a column, where its number has so many digits
pub column_is : (n count : ℕ) → count ≡ length (digits n) → column n ≡ digits n ++ spaces (column_width - count)
unfolding column
column_is n count e = ap (λ (k : ℕ). digits n ++ spaces (column_width - k)) (sym e)

module _ (list : List ℕ) (i : ℕ) where
  -- the three numbers, from the record's fields
  pub numbers_are : (piece place : ℕ) → piece ≡ piece_at list i → place ≡ place_at list i
      → numbers_of list i ≡ column i ++ column piece ++ column place
  unfolding numbers_of
  numbers_are piece place e f =
      ap (λ (n : ℕ). column i ++ column n ++ column (place_at list i)) (sym e)
      ∙ ap (λ (n : ℕ). column i ++ column piece ++ column n) (sym f)

  -- the node, from its kind
  pub node_is : (kind : ℕ) → kind ≡ kind_at list i → node_of list i ≡ kind_word kind ++ holds list i ++ bytes "\n"
  unfolding node_of
  node_is kind e = ap (λ (k : ℕ). kind_word k ++ holds list i ++ bytes "\n") (sym e)
