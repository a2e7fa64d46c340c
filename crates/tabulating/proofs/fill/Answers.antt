-- `tabulating::fill` meets its contract: where all states were found, the table that is written is theirs.
use Prim.Native.Nat.{◌+◌}
use mathlib.Core.Path.{◌≡◌, refl}
use native.Mathlib.Omega.{arith}
use lib.ListN.{length, take}
use lib.Seq.{length-take-le}
use Rattle.language.specs.Tree.{Tree}
use Rattle.tree.specs.Leaf.{Leaf}
use Rattle.tables.specs.Tables.{Prepared}
use Rattle.machines.specs.TableOf.{TableFits}
use Rattle.exploring.specs.Room.{FoundAll}
use Rattle.tabulating.specs.TabulatesLaws.{
  none_written,
  some_piece,
  found_writable,
  found_written,
  never_all,
  some_text,
  fits_in,
}
use Rattle.tabulating.proofs.fill.Goals as goal
use Rattle.tabulating.proofs.fill.Goals.{In_ok-texts}

-- so many columns
width_is : (c : In_ok-texts) → length (take c.args.width c.args.firsts.now) ≡ c.args.width
width_is c = length-take-le c.args.width c.args.firsts.now c.requires.le_width.1

-- so many texts fit
fits_at : (c : In_ok-texts) → let args = c.args in
    TableFits args.count args.width (1 + args.most) (length args.table.now) (length args.room.now)
fits_at c = c.requires.table_fits (omega (arith, c.if-most-eq0.false))

-- all states were found
found_at : (c : In_ok-texts) → let args = c.args in (t : Tree Leaf)
    → Prepared t args.rows.now args.count
    → FoundAll args.classes.now t (take args.width args.firsts.now) args.count args.most
    c.explore.new.room c.in_ok-texts.texts
found_at c t prepared =
    c.in_ok-texts.ensures t prepared

pub returns-then-most-eq0 : goal.returns-then-most-eq0
returns-then-most-eq0 c =
    λ t prepared.
    none_written (λ texts found all few. omega (arith, some_text all, c.if-most-eq0.true, few)) refl

pub returns-in_err-texts : goal.returns-in_err-texts
returns-in_err-texts c = λ t prepared.
    rw (c.from_residual.ensures) (none_written (never_all (c.in_err-texts.ensures t prepared)) refl)

pub invariant_of-root : goal.invariant_of-root
invariant_of-root c =
    let ready = c.requires.ready in
    record { inside = omega (arith, ready.roomy, some_piece ready.of_tree.1) }

pub write_table-requires : goal.write_table-requires
write_table-requires c =
    let tree = c.requires.ready.of_tree in
    let told = (goal.at.write_table-requires c).In_ok-texts in
    found_writable tree.1 c.top.ensures (c.requires.columned tree.0 tree.1) (width_is told)
    (found_at told tree.0 tree.1) c.args.table.now (fits_in c.explore.auto.room (fits_at told))

pub returns : goal.returns
returns c =
    λ t prepared.
    let told = (goal.at.returns c).In_ok-texts in
    found_written prepared c.top.ensures (c.requires.columned t prepared) (width_is told)
    (found_at told t prepared) c.write_table.ensures
