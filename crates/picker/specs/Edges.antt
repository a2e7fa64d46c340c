-- The examples P1 to P10 (docs/REFERENCE.md, section 10): one table, one statement over it in the words of the public
-- contracts, one proof that computes each row.
use Prim.Native.Nat.{ℕ, ◌*◌, ◌≤◌}
use Rattle.std.specs.Prelude.{◌≡◌, refl, Bool, true, false, ◌↔◌, length, take, eqb, ltb}
use Rattle.std.proofs.Common.{sym, ◌∙◌, arith}
use Rattle.std.specs.Bool.{beq}
use Rattle.std.proofs.lemmas.Bool.{false≢true}
use Rattle.std.proofs.Math.Logic.Iff
use mathlib.Core.List.{List, [], ◌∷◌, ◌++◌}
use borrow.Author.Tests.{eqb-true, le-ltb, ltb-false}
use Rattle.language.specs.Tree.{Tree, nodes}
use Rattle.tree.specs.Layout.{record_size}
use Rattle.tree.specs.Leaf.{Leaf, Matches}
use Rattle.tree.specs.Limits.{longest_text, most_pieces}
use Rattle.tree.specs.Records.{Good, piece_count, class_count}
use Rattle.tree.specs.Pieces.{cut_up}
use Rattle.operands.specs.Text.{bytes}
use Rattle.operands.specs.Bytes.{first}
use Rattle.operands.specs.Scanner.{Outcome, tree, refused, scan, scanned}
use Rattle.checker.specs.Expanded.{expanded}
use Rattle.checker.specs.Drawn.{drawn}
use Rattle.reader.specs.Answer.{answer_for, read_answered, records_after}
use Rattle.reader.specs.Kept.{kept}
use Rattle.tables.specs.Tables.{Holding, Answered}
use Rattle.marks.specs.Promise.{Classed, Starts, Steps}
use Rattle.matching.specs.Found.{SearchOutcome, at, nothing, Answers}
use Rattle.finder.specs.Promise.{
  OfGood,
  MatchAnswers,
  match_answered,
  SearchAnswers,
  search_found,
  search_nothing,
}
use Rattle.finder.specs.Decide.{any_split, any_repeat, leaf_text, matched, matches}
use Rattle.finder.specs.DecideExactly.{matches_exactly}
use Rattle.finder.specs.Searched.{latest_end, answer_from, searched, searched_exactly}
use Rattle.finder.specs.Computed.{walked_test, moved}
use Rattle.finder.specs.Leaving.{AsMany, all_zero, starts_by, steps_by}
use Rattle.finder.specs.Held.{
  held_after,
  same_answer as same_test,
  also,
  also_first,
  also_second,
  ends,
  agrees,
  tidy,
  holds_after,
}

-- what is said holds of every row
abbrev pub Every : {A : Type 0} → (A → Type 0) → List A → Type 0
Every Says [] = Unit {0}
Every Says (row ∷ rows) = Says row × Every Says rows

-- the words that a start or a step leaves, and whether the accepting state is now marked
pub record Left : Type 0 where
  pub words : List ℕ
  pub accepting : Bool

-- a step: its byte, and what it leaves
pub record EdgeStep : Type 0 where
  pub byte : ℕ
  pub left : Left

-- a row: what an expression, given first, comes to
pub data Row : Type 0 where
  -- it is refused with this number at this place
  refuses : (expression : List ℕ) (number place : ℕ) → Row
  -- it is read, with so many records and pieces
  reads : (expression : List ℕ) (records pieces : ℕ) → Row
  -- what a start leaves, and then each of some steps
  marks : (expression : List ℕ) (start : Left) (steps : List EdgeStep) → Row
  -- the answer for a whole text
  answers : (expression text : List ℕ) (answer : Bool) → Row
  -- what search finds in a text
  finds : (expression text : List ℕ) (answer : SearchOutcome) → Row

-- the expression, of the first syntax, is read, with so many records and pieces, into every buffer that has room for
-- them; and of the list of records that the buffer then begins with, this holds
pub record ReadsTo (expression : List ℕ) (records pieces : ℕ) (Says : List ℕ → Type 0) : Type 0 where
  pub gives : (buffer : List ℕ) → record_size * records ≤ length buffer
      → read_answered expression (length buffer)
      ≡ record { refusal = 0; place = 0; records = records; pieces = pieces }
  pub says : (buffer : List ℕ) → record_size * records ≤ length buffer
      → Says (take (record_size * records) (records_after expression buffer))

-- each step leaves what is said, from the words that were left before it
abbrev pub EachStep : (list words : List ℕ) → List EdgeStep → Type 0
EachStep list words [] = Unit {0}
EachStep list words (step ∷ later) =
    Steps list [] step.byte words step.left.words
    (record {
      refusal = 0;
      place = 0;
      accepting = step.left.accepting;
      nothing = all_zero step.left.words;
    })
    × EachStep list step.left.words later

-- a start, from any words, as many as it leaves; then the steps
pub record Marking (list : List ℕ) (start : Left) (steps : List EdgeStep) : Type 0 where
  pub starts : (words : List ℕ) → length words ≡ length start.words
      → Starts list [] words start.words
      (record { refusal = 0; place = 0; accepting = start.accepting; nothing = false })
  pub goes_on : EachStep list start.words steps

-- what search says of a text
abbrev pub Finding : (list text : List ℕ) → SearchOutcome → Type 0
Finding list text (at s e) =
    SearchAnswers list [] text (record { refusal = 0; place = 0; matched = true; start = s; end = e })
Finding list text nothing =
    SearchAnswers list [] text (record { refusal = 0; place = 0; matched = false; start = 0; end = 0 })

-- what is said of the list of an expression that is read
abbrev pub OfRecords : List ℕ → (List ℕ → Type 0) → Type 0
OfRecords expression Says = (records : ℕ) × ((pieces : ℕ) × ReadsTo expression records pieces Says)

-- what a row says
abbrev pub RowSays : Row → Type 0
RowSays (refuses expression number place) = (room : ℕ)
    → read_answered expression room ≡ record { refusal = number; place = place; records = 0; pieces = 0 }
RowSays (reads expression records pieces) = ReadsTo expression records pieces (λ list. Unit {0})
RowSays (marks expression start steps) = OfRecords expression (λ list. Marking list start steps)
RowSays (answers expression text answer) =
    OfRecords expression
    (λ list. MatchAnswers list [] text (record { refusal = 0; place = 0; matched = answer; start = 0; end = 0 }))
RowSays (finds expression text answer) = OfRecords expression (λ list. Finding list text answer)

-- the table
abbrev pub edges : List Row
edges =
    -- P1
    refuses (bytes "") 1 0
    -- P2
    ∷ refuses (bytes "a|") 3 2
    -- P3
    ∷ refuses (bytes "()") 3 1
    -- P4
    ∷ refuses (bytes "((a)") 4 0
    -- P5
    ∷ refuses (bytes "a)") 5 1
    ∷ refuses (bytes ")") 3 0
    -- P6
    ∷ refuses (bytes "a\\b") 7 1
    -- P7
    ∷ marks (bytes "a*b") (record { words = 55 ∷ []; accepting = false })
    (record { byte = 97; left = record { words = 60 ∷ []; accepting = false } }
    ∷ record { byte = 98; left = record { words = 192 ∷ []; accepting = true } }
    ∷ record { byte = 97; left = record { words = 0 ∷ []; accepting = false } }
    ∷ [])
    -- P8
    ∷ reads (bytes "ac|a*b") 8 1
    ∷ answers (bytes "ac|a*b") (bytes "ac") true
    ∷ answers (bytes "ac|a*b") (bytes "b") true
    ∷ answers (bytes "ac|a*b") (bytes "a") false
    -- P9
    ∷ finds (bytes "ab*") (bytes "xabbab") (at 1 4)
    -- P10
    ∷ finds (bytes "a*") (bytes "b") (at 0 0)
    ∷ finds (bytes "b") (bytes "") nothing
    ∷ []

-- whether an outcome is this refusal
unfoldable is_refusal : ℕ → ℕ → Outcome (Tree Leaf) → Bool
is_refusal number place (tree t) = false
is_refusal number place (refused n p) = also (eqb n number) (eqb p place)

-- whether an outcome is a tree of few pieces and no class that passes a test
unfoldable is_tree : (Tree Leaf → Bool) → Outcome (Tree Leaf) → Bool
is_tree test (tree t) =
    also (beq (ltb most_pieces (piece_count t)) false) (also (eqb (class_count t) 0) (test t))
is_tree test (refused n p) = false

-- whether two answers of search are the same
unfoldable same_answer : SearchOutcome → SearchOutcome → Bool
same_answer (at s e) (at i j) = also (eqb s i) (eqb e j)
same_answer (at s e) nothing = false
same_answer nothing (at i j) = false
same_answer nothing nothing = true

-- whether the words, as many as there are pieces, hold the marks after the text w, and the flag says whether it matches
unfoldable left_test : Tree Leaf → (w : List ℕ) → Left → Bool
left_test t w left =
    also (eqb (length left.words) (piece_count t))
    (also (holds_after [] t w left.words) (beq (matches [] t w) left.accepting))

-- whether that is so after each step
unfoldable steps_test : Tree Leaf → (w : List ℕ) → List EdgeStep → Bool
steps_test t w [] = true
steps_test t w (step ∷ later) =
    also (left_test t (w ++ (step.byte ∷ [])) step.left) (steps_test t (w ++ (step.byte ∷ [])) later)

-- a row, as a test that computes
unfoldable row_test : Row → Bool
row_test (refuses expression number place) = is_refusal number place (drawn (expanded first expression))
row_test (reads expression records pieces) = is_tree (λ t. also (eqb (nodes t) records) (eqb (piece_count t) pieces))
    (drawn (expanded first expression))
row_test (marks expression start steps) =
    is_tree (λ t. also (left_test t [] start) (steps_test t [] steps)) (drawn (expanded first expression))
row_test (answers expression text answer) =
    is_tree (λ t. also (beq (ltb longest_text (length text)) false) (beq (matches [] t text) answer))
    (drawn (expanded first expression))
row_test (finds expression text answer) =
    is_tree
    (λ t. also (beq (ltb longest_text (length text)) false) (same_answer (searched (matches [] t) text) answer))
    (drawn (expanded first expression))

-- a test that is as false fails
fails : (test : Bool) → beq test false ≡ true → test ≡ false
fails true e = absurd (false≢true e)
fails false e = refl

-- an outcome that passes the test is that refusal, whatever the room
refusal_holds : (number place room : ℕ) (outcome : Outcome (Tree Leaf)) → is_refusal number place outcome ≡ true
    → answer_for outcome room ≡ record { refusal = number; place = place; records = 0; pieces = 0 }
unfolding is_refusal
refusal_holds number place room (tree t) e = absurd (false≢true e)
refusal_holds number place room (refused n p) e =
    rw (eqb-true n number (also_first _ _ e), eqb-true p place (also_second _ _ e))

module _ (expression : List ℕ) (Says : List ℕ → Type 0) where
  -- an expression with a tree of few pieces is read, and its records are a good list of the tree
  tree_read : (t : Tree Leaf) → drawn (expanded first expression) ≡ tree t → ltb most_pieces (piece_count t) ≡ false
      → ((list : List ℕ) → Good list t → Says list) → ReadsTo expression (nodes t) (piece_count t) Says
  tree_read t scans few says =
      let given : (buffer : List ℕ) → record_size * nodes t ≤ length buffer → read_answered expression (length buffer)
      ≡ record { refusal = 0; place = 0; records = nodes t; pieces = piece_count t } =
      λ buffer room. rw (scans, few, le-ltb (length buffer) (record_size * nodes t) room) in
      record {
        gives = given;
        says = λ buffer room.
            let k = kept expression buffer (records_after expression buffer) (nodes t) (piece_count t)
            (sym (given buffer room)) refl in
            let same : k.read ≡ t = same_tree k.scans scans in
            says (take (record_size * nodes t) (records_after expression buffer)) (rw same at k.good);
      }
    where
      same_tree : {s u : Tree Leaf} → drawn (expanded first expression) ≡ tree s
          → drawn (expanded first expression) ≡ tree u → s ≡ u
      same_tree e f = cc (e, f)

  -- an outcome that passes the test is such a tree with no class, and of it holds what the test stands for
  tree_holds : (test : Tree Leaf → Bool)
      → ((t : Tree Leaf) → test t ≡ true → Classed [] t → (list : List ℕ) → Good list t → Says list)
      → (outcome : Outcome (Tree Leaf)) → drawn (expanded first expression) ≡ outcome → is_tree test outcome ≡ true
      → OfRecords expression Says
  unfolding is_tree
  tree_holds test sound (tree t) scans e =
      let rest = also_second _ _ e in
      let classless = eqb-true (class_count t) 0 (also_first _ _ rest) in (
        nodes t,
        (piece_count t, tree_read t scans (fails _ (also_first _ _ e)) (sound t (also_second _ _ rest) (omega arith))),
      )
  tree_holds test sound (refused n p) scans e = absurd (false≢true e)

-- an expression that passes the test for its counts is read with them
reads_holds : (expression : List ℕ) (records pieces : ℕ) (outcome : Outcome (Tree Leaf))
    → drawn (expanded first expression) ≡ outcome
    → is_tree (λ t. also (eqb (nodes t) records) (eqb (piece_count t) pieces)) outcome ≡ true
    → ReadsTo expression records pieces (λ list. Unit {0})
unfolding is_tree
reads_holds expression records pieces (tree t) scans e =
    let counts = also_second _ _ (also_second _ _ e) in
    rw (eqb-true (nodes t) records (also_first _ _ counts), eqb-true (piece_count t) pieces (also_second _ _ counts))
    at (tree_read expression (λ list. Unit {0}) t scans (fails _ (also_first _ _ e)) (λ list good. tt))
reads_holds expression records pieces (refused n p) scans e = absurd (false≢true e)

-- two answers that pass the test are the same
answer_holds : (a b : SearchOutcome) → same_answer a b ≡ true → a ≡ b
unfolding same_answer
answer_holds (at s e) (at i j) h = rw (eqb-true s i (also_first _ _ h), eqb-true e j (also_second _ _ h))
answer_holds (at s e) nothing h = absurd (false≢true h)
answer_holds nothing (at i j) h = absurd (false≢true h)
answer_holds nothing nothing h = refl

-- the test for a whole text
match_holds : (t : Tree Leaf) (text : List ℕ) (answer : Bool) → beq (matches [] t text) answer ≡ true
    → (answer ≡ true) ↔ Matches [] t text
match_holds t text answer e = Iff.trans (Iff.symm (same_test (matches [] t text) answer e)) (matches_exactly [] t text)

-- what passes the test for what is left
module _ (t : Tree Leaf) (w : List ℕ) (left : Left) (e : left_test t w left ≡ true) where
  left_count : AsMany t left.words
  unfolding left_test
  left_count = eqb-true (length left.words) (piece_count t) (also_first _ _ e)

  left_answered : Answered [] t w left.words left.accepting
  unfolding left_test
  left_answered =
      record {
        holding = held_after [] t w left.words (also_first _ _ (also_second _ _ e));
        answer = match_holds t w left.accepting (also_second _ _ (also_second _ _ e));
      }

module _ {list : List ℕ} {t : Tree Leaf} (good : Good list t) (classed : Classed [] t) where
  -- each step that passes leaves what is said
  steps_hold : (w words : List ℕ) → AsMany t words → Holding [] t w words → (steps : List EdgeStep)
      → steps_test t w steps ≡ true → EachStep list words steps
  unfolding steps_test
  steps_hold w words many holding [] e = tt
  steps_hold w words many holding (step ∷ later) e =
      let next : List ℕ = w ++ (step.byte ∷ []) in
      let passes = also_first _ _ e in
      let many' = left_count t next step.left passes in
      let there = left_answered t next step.left passes in (
        steps_by good classed words step.left.words step.left.accepting many many' w step.byte holding there,
        steps_hold next step.left.words many' there.holding later (also_second _ _ e),
      )

  -- so does a start, and the steps after it
  marks_hold : (start : Left) (steps : List EdgeStep) → left_test t [] start ≡ true → steps_test t [] steps ≡ true
      → Marking list start steps
  marks_hold start steps e f =
      let many = left_count t [] start e in
      let there = left_answered t [] start e in
      record {
        starts = λ words as_long.
            starts_by good classed words start.words start.accepting (as_long ∙ many) many there;
        goes_on = steps_hold [] start.words many there.holding steps f;
      }

  -- what holds of the tree holds of the good list
  of_good : {text : List ℕ} {P : Tree Leaf → Type 0} → beq (ltb longest_text (length text)) false ≡ true → P t
      → OfGood list [] text P
  of_good {text} short holds =
      record {
        t = t;
        good = good;
        classed = classed;
        short = ltb-false longest_text (length text) (fails _ short);
        holds = holds;
      }

  -- a right answer is what search gives back
  finds_hold : (text : List ℕ) (answer : SearchOutcome) → beq (ltb longest_text (length text)) false ≡ true
      → Answers (Matches [] t) text answer → Finding list text answer
  finds_hold text (at s e) short found = search_found (of_good short found)
  finds_hold text nothing short none = search_nothing (of_good short none)

-- a row whose test passes holds
row_holds : (row : Row) → row_test row ≡ true → RowSays row
unfolding row_test
row_holds (refuses expression number place) e = λ room. refusal_holds number place room
    (drawn (expanded first expression)) e
row_holds (reads expression records pieces) e = reads_holds expression records pieces
    (drawn (expanded first expression)) refl e
row_holds (marks expression start steps) e =
    tree_holds expression _ _
    (λ t h classed list good. marks_hold good classed start steps (also_first _ _ h) (also_second _ _ h))
    (drawn (expanded first expression)) refl e
row_holds (answers expression text answer) e =
    tree_holds expression _ _
    (λ t h classed list good.
    match_answered (of_good good classed (also_first _ _ h) (match_holds t text answer (also_second _ _ h))))
    (drawn (expanded first expression)) refl e
row_holds (finds expression text answer) e =
    tree_holds expression _ _
    (λ t h classed list good.
    finds_hold good classed text answer (also_first _ _ h)
    ((searched_exactly (Matches [] t) (matches [] t) (matches_exactly [] t) text answer).1
    (answer_holds (searched (matches [] t) text) answer (also_second _ _ h))))
    (drawn (expanded first expression)) refl e

-- all rows pass
unfoldable rows_test : List Row → Bool
rows_test [] = true
rows_test (row ∷ rows) = also (row_test row) (rows_test rows)

-- then every row holds
rows_hold : (rows : List Row) → rows_test rows ≡ true → Every RowSays rows
unfolding rows_test
rows_hold [] e = tt
rows_hold (row ∷ rows) e = (row_holds row (also_first _ _ e), rows_hold rows (also_second _ _ e))

-- every row of the table holds
pub edges_hold : Every RowSays edges
unfolding rows_test row_test is_refusal is_tree same_answer left_test steps_test scan scanned expanded any_split
    any_repeat
    leaf_text matched latest_end answer_from walked_test moved also ends agrees tidy holds_after cut_up piece_count
edges_hold = rows_hold edges refl
