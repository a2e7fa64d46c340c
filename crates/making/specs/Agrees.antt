-- A match by a table that was made of a list is a match by marks.
use Rattle.std.specs.Prelude.{ℕ, ◌<◌, ◌≡◌, Bool, true, ◌↔◌, List, length, get_or}
use Rattle.std.proofs.Common.{arith, sym}
use Rattle.std.proofs.Math.Logic.Iff
use Rattle.tree.specs.Leaf.{Matches}
use Rattle.lists.specs.Readback.{good_unique}
use Rattle.running.specs.Runs.{runs}
use Rattle.running.specs.Answer.{table_answered, answering_table as table-answering}
use Rattle.running.specs.RunLaws.{answered_long}
use Rattle.machines.specs.Columns.{byte_count}
use Rattle.tabulating.specs.Tabulates.{TableMade}
use Rattle.tabulating.specs.TabulatesLaws.{made_runs}
use Rattle.finder.specs.Answer.{answering_match}
use Rattle.finder.specs.Promise.{MatchAnswers, match_answered}
use Rattle.finder.specs.Unique.{same_test}
use Rattle.making.specs.Promise.{OfGoodClassed}

-- each number of the text is a byte
abbrev pub Bytes : List ℕ → Type 0
Bytes text = (i : ℕ) → i < length text → get_or text i 0 < byte_count

module _ {list classes table after room cleared : List ℕ} {states entries : ℕ}
    (of : OfGoodClassed list classes (λ t. TableMade classes t table after room cleared states entries))
    (text : List ℕ)
    (bytes : Bytes text) where
  -- the result: the table that was made accepts the text exactly where the text is in the language of the list's tree
  pub runs_as_language : (runs after text ≡ true) ↔ Matches classes of.t text
  runs_as_language = made_runs of.holds text bytes

  -- and so says what a match by marks says
  pub same_as_match : {matched : Bool} → MatchAnswers list classes text (answering_match matched)
      → runs after text ≡ matched
  same_as_match {matched} (match_answered told) =
      let one = good_unique list told.t of.t told.good of.good in
      same_test (runs after text) matched
      (Iff.trans runs_as_language (Iff.symm (rw one at told.holds)))
  same_as_match (Rattle.finder.specs.Promise.match_refused x3) = elim x3 [ ]

  -- the numbers of the match by table say so
  pub answered_as_match : {matched : Bool} → MatchAnswers list classes text (answering_match matched)
      → table_answered after text ≡ table-answering matched
  answered_as_match {matched} told =
      sym (answered_long after text matched
      (omega (arith, of.holds.fits.in_table, of.holds.made.same_length)) (sym (same_as_match told)))
