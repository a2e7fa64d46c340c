-- When an expression is too large: refusal 8 is given exactly when no cut of its tree has few enough pieces.
use Rattle.std.specs.Prelude.{ℕ, ◌*◌, ◌<◌, ◌≤◌, ◌≡◌, refl, Bool, true, false, cond, List, ◌↔◌, length, ltb}
use Rattle.std.proofs.Common.{arith, ap, ltb-true, lt-ltb}
use Rattle.language.specs.Tree.{Tree, nodes}
use Rattle.tree.specs.Limits.{most_pieces, longest_expression}
use Rattle.tree.specs.RefusalNumbers.{too_many_pieces, buffer_too_short}
use Rattle.tree.specs.Layout.{record_size}
use Rattle.tree.specs.Leaf.{Leaf}
use Rattle.tree.specs.Cut.{Cut, Fits, pieces}
use Rattle.tree.specs.Records.{piece_count}
use Rattle.tree.specs.Least.{too_many_exactly}
use Rattle.operands.specs.Bytes.{first}
use Rattle.operands.specs.Scanner.{tree}
use Rattle.checker.specs.Expanded.{expanded}
use Rattle.checker.specs.Drawn.{drawn}
use Rattle.checker.specs.DrawnLaws.{WrittenAs, drawn_exactly}
use Rattle.reader.specs.Answer.{ReadNumbers, refusing_read, reading, answer_for, read_answered}

-- of the answers to a tree, only the one for too many pieces has the number 8
eight_first : (t : Tree Leaf) (many short : Bool)
    → cond many (refusing_read too_many_pieces 0) (cond short (refusing_read buffer_too_short 0) (reading t))
    ≡ refusing_read too_many_pieces 0 → many ≡ true
eight_first t true short e = refl
eight_first t false true e = absurd (omega (arith, ap (λ (n : ReadNumbers). n.refusal) e))
eight_first t false false e = absurd (omega (arith, ap (λ (n : ReadNumbers). n.refusal) e))

-- the cut decides
eight_tree : (t : Tree Leaf) (room : ℕ) → (answer_for (tree t) room ≡ refusing_read too_many_pieces 0)
    ↔ (most_pieces < piece_count t)
eight_tree t room = (
  λ e. ltb-true most_pieces (piece_count t) (eight_first t (ltb most_pieces (piece_count t)) (ltb room
      (record_size * nodes t)) e),
  λ many. ap
      (λ (b : Bool). cond b (refusing_read too_many_pieces 0)
      (cond (ltb room (record_size * nodes t)) (refusing_read buffer_too_short 0) (reading t)))
      (lt-ltb most_pieces (piece_count t) many),
)

-- an expression with no fault in its writing or length is refused as 8 exactly when every cut with pieces of at most 15
-- nodes has more than 128 pieces
pub too_large_exactly : (bytes : List ℕ) (room : ℕ) (t : Tree Leaf) → length bytes ≤ longest_expression
    → WrittenAs first bytes t
    → (read_answered bytes room ≡ refusing_read too_many_pieces 0) ↔ ((c : Cut t) → Fits t c → most_pieces < pieces t c)
too_large_exactly bytes room t few w =
    let scans : drawn (expanded first bytes) ≡ tree t = (drawn_exactly first bytes t).1 (few, w) in (
      λ e. (too_many_exactly t).0 ((eight_tree t room).0 (rw scans at e)),
      λ many. rw scans ((eight_tree t room).1 ((too_many_exactly t).1 many)),
    )
