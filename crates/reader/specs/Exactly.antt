-- When an expression is read: exactly when it is written by the grammar, has at most 1,024 bytes, can be cut into few
-- enough small pieces, and the buffer has room for its records.
use Rattle.std.specs.Prelude.{ℕ, ◌*◌, ◌≤◌, ◌≡◌, refl, Bool, true, false, cond, List, ◌↔◌, length, ltb}
use Rattle.std.proofs.Math.Decide.{dec_lt}
use Rattle.std.proofs.Common.{arith, ltb-false, le-ltb}
use Rattle.language.specs.Tree.{Tree, nodes}
use Rattle.tree.specs.Limits.{most_pieces, longest_expression, most_labels}
use Rattle.tree.specs.RefusalNumbers.{too_many_pieces, buffer_too_short}
use Rattle.tree.specs.Layout.{record_size}
use Rattle.tree.specs.Leaf.{Leaf}
use Rattle.tree.specs.Cut.{Cut, Fits, pieces}
use Rattle.tree.specs.Records.{piece_count}
use Rattle.tree.specs.Least.{few_exactly}
use Rattle.operands.specs.Bytes.{first}
use Rattle.operands.specs.Scanner.{Outcome, tree, refused}
use Rattle.checker.specs.Expanded.{expanded}
use Rattle.checker.specs.Drawn.{drawn}
use Rattle.checker.specs.DrawnLaws.{WrittenAs, drawn_exactly, drawn_refusal, drawn_size}
use Rattle.reader.specs.Answer.{refusing_read, reading, answer_for, read_answered}

-- some cut of t with pieces of at most 15 nodes has at most 128 of them
abbrev pub SmallEnough : Tree Leaf → Type 0
SmallEnough t = (c : Cut t) × Fits t c × (pieces t c ≤ most_pieces)

-- then the wanted cut has at most 128, since it has the fewest; and the other way round
pub small_enough_exactly : (t : Tree Leaf) → (piece_count t ≤ most_pieces) ↔ SmallEnough t
small_enough_exactly = few_exactly

-- the expression has the tree t, which is small enough, and there is room for its records
pub record FitToRead (bytes : List ℕ) (room : ℕ) : Type 0 where
  pub few : length bytes ≤ longest_expression
  pub t : Tree Leaf
  pub written : WrittenAs first bytes t
  pub small : SmallEnough t
  pub fits : record_size * nodes t ≤ room

-- of the answers to a tree, only the one past both tests is no refusal
past_both : (t : Tree Leaf) (many short : Bool)
    → (cond many (refusing_read too_many_pieces 0) (cond short (refusing_read buffer_too_short 0) (reading t))).refusal
    ≡ 0
    → (many ≡ false) × (short ≡ false)
past_both t true short e = absurd (omega arith)
past_both t false true e = absurd (omega arith)
past_both t false false e = (refl, refl)

-- no refusal, seen from the outcome
taken_outcome : (bytes : List ℕ) (room : ℕ) (outcome : Outcome (Tree Leaf)) → drawn (expanded first bytes) ≡ outcome
    → (answer_for outcome room).refusal ≡ 0 → FitToRead bytes room
taken_outcome bytes room (refused number place) scans e =
    absurd (omega (arith, (drawn_refusal first bytes number place scans).least))
taken_outcome bytes room (tree t) scans e =
    let tests = past_both t (ltb most_pieces (piece_count t)) (ltb room (record_size * nodes t)) e in
    let (few, written) = (drawn_exactly first bytes t).0 scans in
    record {
      few = few;
      t = t;
      written = written;
      small = (small_enough_exactly t).0 (ltb-false most_pieces (piece_count t) tests.0);
      fits = ltb-false room (record_size * nodes t) tests.1;
    }

-- what is fit to be read is read
fit_taken : (bytes : List ℕ) (room : ℕ) → FitToRead bytes room → (read_answered bytes room).refusal ≡ 0
fit_taken bytes room fit =
    rw (
      (drawn_exactly first bytes fit.t).1 (fit.few, fit.written),
      le-ltb most_pieces (piece_count fit.t) ((small_enough_exactly fit.t).1 fit.small),
      le-ltb room (record_size * nodes fit.t) fit.fits,
    )

-- an expression is read exactly when it is fit
pub fit_exactly : (bytes : List ℕ) (room : ℕ) → ((read_answered bytes room).refusal ≡ 0) ↔ FitToRead bytes room
fit_exactly bytes room = (taken_outcome bytes room (drawn (expanded first bytes)) refl, fit_taken bytes room)

-- the expression has at most 1,024 bytes, is written by the grammar, and its tree can be cut into few enough small
-- pieces
abbrev pub Expressible : List ℕ → Type 0
Expressible bytes = (length bytes ≤ longest_expression) × ((t : Tree Leaf) × WrittenAs first bytes t × SmallEnough t)

module _ (bytes : List ℕ) (room : ℕ) (enough : record_size * most_labels ≤ room) where
  -- with room for 2,047 records it is read exactly then: it has no more
  pub expression_read_exactly : ((read_answered bytes room).refusal ≡ 0) ↔ Expressible bytes
  expression_read_exactly = (
    λ e. let fit = (fit_exactly bytes room).0 e in (fit.few, (fit.t, fit.written, fit.small)),
    λ (few, (t, written, small)).
        (fit_exactly bytes room).1
        (record {
          few = few;
          t = t;
          written = written;
          small = small;
          fits =
              omega (arith, drawn_size first bytes t ((drawn_exactly first bytes t).1 (few, written)));
        }),
  )

  -- and is refused exactly when not
  pub expression_refused_exactly : (1 ≤ (read_answered bytes room).refusal) ↔ (Expressible bytes → ⊥)
  expression_refused_exactly = (
    λ h fit. omega (arith, expression_read_exactly.1 fit),
    λ never. elim (dec_lt 0 (read_answered bytes room).refusal) [
      | yes h ↦ omega arith
      | no h
          ↦ absurd (never (expression_read_exactly.0 (omega arith)))
    ],
  )
