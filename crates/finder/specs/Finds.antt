-- What is promised of an answer, by what was sought: a match of the whole text, or a search.
use Rattle.std.specs.Prelude.{ℕ, ◌≤◌, ◌<◌, List, Option, None, Some, Result, Ok, Err, length}
use Rattle.language.specs.Tree.{Tree}
use Rattle.tree.specs.Limits.{longest_text}
use Rattle.tree.specs.Leaf.{Leaf, Matches}
use Rattle.tree.specs.RefusalNumbers.{text_too_long}
use Rattle.tree.specs.Refusing.{refusal_number}
use Rattle.tree.specs.declared.refusal.Refusal.{Refusal}
use Rattle.tables.specs.Tables.{Prepared}
use Rattle.preparing.specs.MadeFor.{ReadyFor, RefusedFor, not_good as not-good, too_few_classes as too-few-classes}
use Rattle.tree.specs.declared.counted.Counts.{Counts}
use Rattle.matching.specs.declared.part.Span.{Span}
use Rattle.finding.specs.declared.Sought.{Sought}
use Rattle.finding.specs.declared.Sought.TheVariants.{WholeText, FirstPart}
use Rattle.finding.specs.Sought.{FoundOf}
use Rattle.finder.specs.Answer.{match_numbers, as_match, search_numbers}
use Rattle.finder.specs.Promise.{
  OfGood,
  Refuses,
  not_good,
  too_few_classes,
  too_long,
  MatchAnswers,
  match_refused,
  match_answered,
  SearchAnswers,
  search_refused,
  search_found,
  search_nothing,
}

-- the promise of match for the whole text, and that of search for a part
abbrev pub FindAnswers : (list classes text : List ℕ) → Sought → Result (Option Span) Refusal → Type 0
FindAnswers list classes text WholeText answer = MatchAnswers list classes text (match_numbers (as_match answer))
FindAnswers list classes text FirstPart answer = SearchAnswers list classes text (search_numbers answer)

module _ {list classes : List ℕ} (text : List ℕ) where
  -- a list that no rows are made for is refused
  pub refused_for : {number : ℕ} → RefusedFor list classes number → Refuses list classes text number
  refused_for (not-good why) = not_good why
  refused_for (too-few-classes why) = too_few_classes why

  -- a text that is too long is refused where rows are made
  pub refused_long : {counts : Counts} {rows : List ℕ} → ReadyFor list classes counts rows → longest_text < length text
      → Refuses list classes text text_too_long
  refused_long ready long = too_long (record {
    t = ready.known.tree;
    good = ready.known.is_good;
    classed = ready.classed ready.known.tree ready.known.is_good;
    long = long;
  })

  -- what is refused fits both promises
  pub find_refused : (sought : Sought) (refusal : Refusal) → Refuses list classes text (refusal_number refusal)
      → FindAnswers list classes text sought (Err refusal)
  find_refused WholeText refusal why = match_refused why
  find_refused FirstPart refusal why = search_refused why

  -- what is found by the rows fits the promise of what was sought
  pub find_found : {counts : Counts} {rows : List ℕ} (sought : Sought) (found : Option Span)
      → ReadyFor list classes counts rows → length text ≤ longest_text
      → ((t : Tree Leaf) → Prepared t rows counts.pieces → FoundOf (Matches classes t) text sought found)
      → FindAnswers list classes text sought (Ok found)
  find_found {counts} {rows} sought found ready short says =
      answer sought found (says ready.known.tree (ready.prepared ready.known.tree ready.known.is_good))
    where
      with_tree : {P : Tree Leaf → Type 0} → P ready.known.tree → OfGood list classes text P
      with_tree holds = record {
        t = ready.known.tree;
        good = ready.known.is_good;
        classed = ready.classed ready.known.tree ready.known.is_good;
        short = short;
        holds = holds;
      }

      answer : (sought : Sought) (found : Option Span)
          → FoundOf (Matches classes ready.known.tree) text sought found
          → FindAnswers list classes text sought (Ok found)
      answer WholeText found says = match_answered (with_tree says)
      answer FirstPart (Some span) says = search_found (with_tree says)
      answer FirstPart None says = search_nothing (with_tree says)
