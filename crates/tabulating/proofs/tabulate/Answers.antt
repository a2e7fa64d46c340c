-- `tabulating::tabulate` meets its contract: the columns are those of the tree, and the states are found and written
-- where as many as there are fit; then the room is cleared.
use Prim.Native.Nat.{ℕ}
use mathlib.Core.Path.{◌≡◌, sym, ap, ap₂, ◌∙◌}
use native.Mathlib.Omega.{arith}
use lib.ListN.{length, take, replicate}
use lib.Seq.{length-take-le}
use Rattle.tree.specs.Records.{piece_count}
use Rattle.machines.specs.TableOf.{most_texts}
use Rattle.tabulating.specs.TabulatesLaws.{tabulated}
use Rattle.tabulating.proofs.tabulate.Goals as goal

pub returns : goal.returns
returns c =
    λ t prepared.
    let args = c.args in
    let width = c.columns_of-width.result in
    let firsts = c.columns_of-width.new.firsts in
    let wide : length (take width firsts) ≡ width =
    length-take-le width firsts (omega (arith, c.columns_of-width.ensures.lower_bound)) in
    let most_is : c.most_texts-most.result
    ≡ most_texts (piece_count t) (length (take width firsts)) (length args.table.now) (length args.room.now) =
    c.most_texts-most.ensures
    ∙ ap₂ (λ (pieces columns : ℕ). most_texts pieces columns (length args.table.now) (length args.room.now))
    prepared.counted (sym wide) in
    let clean : c.fill.new.self ≡ replicate (length args.room.now) 0 =
    c.fill.ensures.after (λ y same. same) ∙ ap (λ (n : ℕ). replicate n 0) c.fill-made.auto.room in
    tabulated c.fill-made.result (c.columns_of-width.ensures.columned t prepared) most_is clean
    (c.fill-made.ensures t prepared)
