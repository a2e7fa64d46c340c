-- What was found at the record and filled by the calls is what a visit of the site there makes.
use Rattle.std.proofs.Common.{ℕ, ◌<◌, subst, arith}
use Rattle.tables.specs.Filling.{tables_same}
use Rattle.tables.specs.Walking.{
  bounds,
  row_within,
  stand_few,
  OfPiece,
  code_readable,
  visited_stand,
  visited_leaf,
  left_ready,
  right_ready,
  star_bounds,
  two_bounds,
  visited_star,
  visited_two,
}
use Rattle.tables.proofs.fill.+fill.Goals as goal

pub piece_at-own-requires : goal.piece_at-own-requires
piece_at-own-requires t c = let within = bounds c.requires.sitting in omega arith

pub stand-requires-clause-child_in_bounds : goal.stand-requires-clause-child_in_bounds
stand-requires-clause-child_in_bounds t c =
    let within = bounds c.requires.sitting in
    let few = stand_few c.requires.sitting in
    let shown = c.piece_at-own.ensures in
    let full = c.requires.full in
    omega arith

pub stand-requires-clause-row_size_in_bounds : goal.stand-requires-clause-row_size_in_bounds
stand-requires-clause-row_size_in_bounds t c =
    let within = bounds c.requires.sitting in
    let row = row_within c.requires in
    omega arith

pub returns-then-own-piece : goal.returns-then-own-piece
returns-then-own-piece t c =
    visited_stand c.piece_at-own.ensures c.if-own-piece.true c.stand.ensures.value c.stand.ensures.roots_after

pub kind_at-kind-requires : goal.kind_at-kind-requires
kind_at-kind-requires t c = let within = bounds c.requires.sitting in omega arith

pub code_at-code-requires : goal.code_at-code-requires
code_at-code-requires t c =
    code_readable
    (record { shown = c.piece_at-own.ensures; same = c.if-own-piece.false; of_kind = c.kind_at-kind.ensures })
    c.requires.sitting

pub leaf-requires : goal.leaf-requires
leaf-requires t c =
    let within = bounds c.requires.sitting in
    let row = row_within c.requires in
    omega arith

pub returns-then-code-ne0 : goal.returns-then-code-ne0
returns-then-code-ne0 t c =
    visited_leaf
    (record { shown = c.piece_at-own.ensures; same = c.if-own-piece.false; of_kind = c.kind_at-kind.ensures })
    c.code_at-code.ensures c.if-code-ne0.true c.leaf.ensures.value (tables_same _ _ c.leaf.ensures.codes_after)

pub left_at-left-requires : goal.left_at-left-requires
left_at-left-requires t c = let within = bounds c.requires.sitting in omega arith

pub fill-middle-requires : goal.fill-middle-requires
fill-middle-requires t c =
    let ready = left_ready
    (record { shown = c.piece_at-own.ensures; same = c.if-own-piece.false; of_kind = c.kind_at-kind.ensures })
    c.code_at-code.ensures c.left_at-left.ensures c.if-code-ne0.false c.requires in
    (subst (λ (k : ℕ). c.left_at-left.result < k) c.decreases ready.0, ready.1)

pub join-requires : goal.join-requires
join-requires t c =
    star_bounds
    (record { shown = c.piece_at-own.ensures; same = c.if-own-piece.false; of_kind = c.kind_at-kind.ensures })
    c.code_at-code.ensures c.left_at-left.ensures c.if-code-ne0.false c.requires
    (record {
      of_codes = c.fill-middle.auto.codes;
      of_stands = c.fill-middle.auto.stands;
      of_roots = c.fill-middle.auto.roots;
    }) c.fill-middle.ensures c.if-kind-eq-STAR.true

pub returns-then-kind-eq-STAR : goal.returns-then-kind-eq-STAR
returns-then-kind-eq-STAR t c =
    visited_star
    (record { shown = c.piece_at-own.ensures; same = c.if-own-piece.false; of_kind = c.kind_at-kind.ensures })
    c.code_at-code.ensures c.left_at-left.ensures c.if-code-ne0.false c.requires
    (record {
      of_codes = c.fill-middle.auto.codes;
      of_stands = c.fill-middle.auto.stands;
      of_roots = c.fill-middle.auto.roots;
    }) c.fill-middle.ensures c.if-kind-eq-STAR.true c.join.ensures.value (tables_same _ _ c.join.ensures.codes_after)

pub right_at-right-requires : goal.right_at-right-requires
right_at-right-requires t c = let within = bounds c.requires.sitting in omega arith

pub fill-last-requires : goal.fill-last-requires
fill-last-requires t c =
    let ready = right_ready
    (record { shown = c.piece_at-own.ensures; same = c.if-own-piece.false; of_kind = c.kind_at-kind.ensures })
    c.code_at-code.ensures c.left_at-left.ensures c.if-code-ne0.false c.requires
    (record {
      of_codes = c.fill-middle.auto.codes;
      of_stands = c.fill-middle.auto.stands;
      of_roots = c.fill-middle.auto.roots;
    }) c.fill-middle.ensures c.right_at-right.ensures c.if-kind-eq-STAR.false in
    (subst (λ (k : ℕ). c.right_at-right.result < k) c.decreases ready.0, ready.1)

pub join-requires-2 : goal.join-requires-2
join-requires-2 t c =
    two_bounds
    (record { shown = c.piece_at-own.ensures; same = c.if-own-piece.false; of_kind = c.kind_at-kind.ensures })
    c.code_at-code.ensures c.left_at-left.ensures c.if-code-ne0.false c.requires
    (record {
      of_codes = c.fill-middle.auto.codes;
      of_stands = c.fill-middle.auto.stands;
      of_roots = c.fill-middle.auto.roots;
    }) c.fill-middle.ensures c.right_at-right.ensures c.if-kind-eq-STAR.false
    (record {
      of_codes = c.fill-last.auto.codes;
      of_stands = c.fill-last.auto.stands;
      of_roots = c.fill-last.auto.roots;
    }) c.fill-last.ensures

pub returns : goal.returns
returns t c =
    visited_two
    (record { shown = c.piece_at-own.ensures; same = c.if-own-piece.false; of_kind = c.kind_at-kind.ensures })
    c.code_at-code.ensures c.left_at-left.ensures c.if-code-ne0.false c.requires
    (record {
      of_codes = c.fill-middle.auto.codes;
      of_stands = c.fill-middle.auto.stands;
      of_roots = c.fill-middle.auto.roots;
    }) c.fill-middle.ensures c.right_at-right.ensures c.if-kind-eq-STAR.false
    (record {
      of_codes = c.fill-last.auto.codes;
      of_stands = c.fill-last.auto.stands;
      of_roots = c.fill-last.auto.roots;
    }) c.fill-last.ensures c.join-2.ensures.value (tables_same _ _ c.join-2.ensures.codes_after)
