-- Tables of steps: what is answered fits its number, is given back by unpacking, and is the only answer; and a match by
-- a table that was made answers what a match by marks answers.
use Rattle.std.specs.Prelude.{ℕ, ◌≤◌, ◌≡◌, Bool, true, false, cond, List, ltb, length}
use Rattle.std.proofs.Common.{arith, ap, sym, ◌∙◌}
use Rattle.std.proofs.lemmas.Bool.{false≢true}
use Rattle.tree.specs.RefusalNumbers.{class_buffer_too_short, table_too_short}
use Rattle.running.specs.Runs.{runs}
use Rattle.running.specs.Answer.{
  shortest_table,
  table_answered,
  refusing_table,
  answering_table as table-answering,
}
use Rattle.machines.specs.TableOf.{most_entries}
use Rattle.finder.specs.Answer.{answering_match}
use Rattle.finder.specs.Promise.{MatchAnswers}
use Rattle.making.specs.declared.numbers.MadeNumbers.{MadeNumbers}
use Rattle.tabulating.specs.Tabulates.{TableMade}
use Rattle.making.specs.Promise.{
  RefusesMaking,
  not_good,
  too_few_classes,
  OfGoodClassed,
  Makes,
  refused,
  table_made,
  does_not_fit,
}
use Rattle.making.specs.Unique.{makes_once}
use Rattle.making.specs.Agrees.{Bytes, answered_as_match}
use Rattle.one_number.specs.Packed.{Unpacks}
use Rattle.foamlattice.specs.PackedBounds.{unpacks, flag_small}
use Rattle.foamlattice.specs.Promise.{found_packed, made_packed, table_packed, Tabling}

-- the numbers that the making of a table can give back
pub record MadeRanges (n : MadeNumbers) : Type 0 where
  pub refusal_small : n.refusal ≤ class_buffer_too_short
  pub states_small : n.states ≤ most_entries
  pub entries_small : n.entries ≤ most_entries

-- a refusal's number is small
refusal_small : {list classes : List ℕ} {number : ℕ} → RefusesMaking list classes number
    → number ≤ class_buffer_too_short
refusal_small (not_good why) = omega arith
refusal_small (too_few_classes why) = omega arith

pub made_ranges : {list classes table after room cleared : List ℕ} {n : MadeNumbers}
    → Makes list classes table after room cleared n → MadeRanges n
made_ranges (refused why same kept) =
    record { refusal_small = refusal_small why; states_small = omega arith; entries_small = omega arith }
made_ranges (table_made of) =
    let made = of.holds in
    record {
      refusal_small = omega arith;
      states_small = omega (arith, made.states_are, made.fits.few);
      entries_small = omega (arith, made.entries_are, made.fits.few);
    }
made_ranges (does_not_fit of) =
    record { refusal_small = omega arith; states_small = omega arith; entries_small = omega arith }

-- the number gives its parts back
pub tabling_unpacks : (list classes table after room cleared : List ℕ) (r : ℕ)
    (m : Tabling list classes table after room cleared r) → let n = m.numbers in
    Unpacks r n.refusal (cond n.made 1 0) n.states n.entries
tabling_unpacks list classes table after room cleared r m =
    let n = m.numbers in
    let small = made_ranges m.right in
    unpacks r n.refusal (cond n.made 1 0) n.states n.entries
    (record {
      number_small = omega (arith, small.refusal_small);
      flag_small = omega (arith, flag_small n.made);
      x_small = omega (arith, small.states_small);
      y_small = omega (arith, small.entries_small);
    }) m.as_number

-- two results that both fit the promise are equal
pub tabling_unique : (list classes table after after' room cleared cleared' : List ℕ) (r s : ℕ)
    → Tabling list classes table after room cleared r → Tabling list classes table after' room cleared' s
    → (r ≡ s) × (after ≡ after') × (cleared ≡ cleared')
tabling_unique list classes table after after' room cleared cleared' r s m n =
    let same = makes_once m.right n.right in
    (m.as_number ∙ ap made_packed same.same_numbers ∙ sym n.as_number, same.same_table, same.same_room)

-- the refusal of a match by table is small
answered_small : (short matched : Bool)
    → (cond short (refusing_table table_too_short) (table-answering matched)).refusal ≤ table_too_short
answered_small true matched = omega arith
answered_small false matched = omega arith

-- its number gives its parts back
pub table_unpacks : (table text : List ℕ) (r : ℕ) → r ≡ table_packed (table_answered table text)
    → let n = table_answered table text in Unpacks r n.refusal (cond n.matched 1 0) 0 0
table_unpacks table text r e =
    let n = table_answered table text in
    unpacks r n.refusal (cond n.matched 1 0) 0 0
    (record {
      number_small = omega (arith, answered_small (ltb (length table) shortest_table) (runs table text));
      flag_small = omega (arith, flag_small n.matched);
      x_small = omega arith;
      y_small = omega arith;
    }) e

-- where the flag says that a table was made, it was
of_made : {list classes table after room cleared : List ℕ} {n : MadeNumbers}
    → Makes list classes table after room cleared n → n.made ≡ true
    → OfGoodClassed list classes (λ t. TableMade classes t table after room cleared n.states n.entries)
of_made (refused why same kept) made = absurd (false≢true made)
of_made (table_made of) made = of
of_made (does_not_fit of) made = absurd (false≢true made)

-- the result: by a table that was made of a list a match answers the same number as by the list
pub tabling_agrees : {list classes table after room cleared : List ℕ} {r : ℕ}
    (m : Tabling list classes table after room cleared r) → m.numbers.made ≡ true → (text : List ℕ) → Bytes text
    → {matched : Bool} → MatchAnswers list classes text (answering_match matched)
    → table_packed (table_answered after text) ≡ found_packed (answering_match matched)
tabling_agrees m made text bytes told =
    ap table_packed (answered_as_match (of_made m.right made) text bytes told)
