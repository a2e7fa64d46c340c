-- Two lists that differ only in their places, all of them at most 1,023, answer every match and every search alike.
use Rattle.std.specs.Prelude.{ℕ, ◌≡◌, List}
use Rattle.language.specs.Tree.{Tree}
use Rattle.tree.specs.Leaf.{Leaf}
use Rattle.marks.specs.ButPlaces.{SameButPlaces}
use Rattle.marks.proofs.ButPlaces.{good_there, not_good_there, few_classes_there}
use Rattle.finder.specs.Promise.{
  OfGood,
  Refuses,
  not_good,
  too_few_classes,
  too_long,
  MatchAnswers,
  match_refused,
  match_answered,
  SearchAnswers,
  search_refused,
  search_found,
  search_nothing,
}
use Rattle.finder.specs.Unique.{match_unique, search_unique_numbers}
use Rattle.finder.specs.declared.numbers.FoundNumbers.{FoundNumbers}

module _ {one other classes text : List ℕ} (alike : SameButPlaces one other) where
  -- a refusal of one is one of the other
  refuses_there : {number : ℕ} → Refuses one classes text number → Refuses other classes text number
  refuses_there (not_good none) = not_good (not_good_there alike none)
  refuses_there (too_few_classes few) = too_few_classes (few_classes_there alike classes few)
  refuses_there (too_long h) =
      too_long (record { t = h.t; good = good_there alike h.good; classed = h.classed; long = h.long })

  -- what holds of the tree of one holds of that of the other
  of_good_there : {P : Tree Leaf → Type 0} → OfGood one classes text P → OfGood other classes text P
  of_good_there o = record {
    t = o.t;
    good = good_there alike o.good;
    classed = o.classed;
    short = o.short;
    holds = o.holds;
  }

  -- what match answers on one it answers on the other
  matches_there : {n : FoundNumbers} → MatchAnswers one classes text n → MatchAnswers other classes text n
  matches_there (match_refused r) = match_refused (refuses_there r)
  matches_there (match_answered o) = match_answered (of_good_there o)

  -- and what search answers
  searches_there : {n : FoundNumbers} → SearchAnswers one classes text n → SearchAnswers other classes text n
  searches_there (search_refused r) = search_refused (refuses_there r)
  searches_there (search_found o) = search_found (of_good_there o)
  searches_there (search_nothing o) = search_nothing (of_good_there o)

  -- so two results of match are the same
  pub matches_alike : {n n' : FoundNumbers} → MatchAnswers one classes text n → MatchAnswers other classes text n'
      → n ≡ n'
  matches_alike a b = match_unique other classes text (matches_there a) b

  -- and two results of search
  pub searches_alike : {n n' : FoundNumbers} → SearchAnswers one classes text n → SearchAnswers other classes text n'
      → n ≡ n'
  searches_alike a b = search_unique_numbers other classes text (searches_there a) b
