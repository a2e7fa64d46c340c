-- What follows of a table that was made: it runs as the language, two results that fit the promise are equal; and how
-- it comes from what was found and written.
use Rattle.std.specs.Prelude.{ℕ, ◌+◌, ◌*◌, ◌/◌, ◌%◌, ◌^◌, ◌≤◌, ◌<◌, ◌≡◌, refl, true, ◌⊎◌, ◌↔◌, List, [], length, get_or, drop, replicate, Option, Some, None}
use Rattle.std.proofs.Common.{arith, mul-le-mul_right, mul-le-mul_left, sym, ap, ap₂, ◌∙◌, inl, inr, get_or-take, get_or-drop}
use Rattle.std.proofs.Math.Decide.{dec_lt}
use Rattle.language.specs.Tree.{Tree}
use Rattle.tree.specs.Leaf.{Leaf, Matches}
use Rattle.tree.specs.Records.{piece_count}
use Rattle.tables.specs.Words.{Bit}
use Rattle.tables.specs.Plan.{top_of}
use Rattle.tables.specs.Tables.{Prepared}
use Rattle.stepping.specs.Texts.{all_words, accepting_answer}
use Rattle.stepping.specs.Inner.{top_low}
use Rattle.running.specs.Runs.{runs}
use Rattle.machines.specs.Columns.{byte_count, Columned}
use Rattle.machines.specs.Explored.{FoundAllStates}
use Rattle.machines.specs.TableOf.{entry_count, TableFits, TableOf, most_texts}
use Rattle.machines.proofs.TableRuns.{table_runs}
use Rattle.machines.specs.TableFitsLaws.{fits_most}
use Rattle.machines.specs.ExploredFacts.{first_text, entry_within}
use Rattle.machines.specs.AllFoundLaws.{all_found_most}
use Rattle.machines.proofs.ColumnsUnique.{columned_once}
use Rattle.machines.proofs.MadeOnce.{states_once, made_once}
use Rattle.exploring.specs.Room.{FoundKept, FoundAll, TooMany, marks_of, entries_from}
use Rattle.writing.specs.Written.{Writable, TableWritten}
use Rattle.writing.specs.declared.Places.{Places}
use Rattle.tabulating.specs.declared.Made.{Made}
use Rattle.tabulating.specs.Tabulates.{TableMade, Tabulates, table_made, does_not_fit}

-- the result: a table that was made accepts a text of bytes exactly where the text is of the language
pub made_runs : {classes : List ℕ} {t : Tree Leaf} {table after room cleared : List ℕ} {states entries : ℕ}
    → TableMade classes t table after room cleared states entries → (w : List ℕ)
    → ((i : ℕ) → i < length w → get_or w i 0 < byte_count) → (runs after w ≡ true) ↔ Matches classes t w
made_runs made w bytes = table_runs made.columned made.all made.made w bytes

-- what comes of at most so many texts: all states were found and written; or no such texts are all, and nothing is
-- written
pub data TabulatingOutcome (classes : List ℕ) (t : Tree Leaf) (firsts columns : List ℕ) (most : ℕ)
    (table after : List ℕ)
    : Option Made → Type 0 where
  all_written : {made : Made} (texts : List (List ℕ)) (found : List ℕ) → FoundAllStates classes t firsts texts found
      → length texts ≤ most → TableOf classes t firsts columns texts found table after → made.states ≡ 1 + length texts
      → made.entries ≡ entry_count (length firsts) (1 + length texts)
      → TabulatingOutcome classes t firsts columns most table after (Some made)
  none_written : ((texts : List (List ℕ)) (found : List ℕ) → FoundAllStates classes t firsts texts found
      → length texts ≤ most → ⊥) → after ≡ table
      → TabulatingOutcome classes t firsts columns most table after None

-- where the values of a table of n texts and k columns are in the room
abbrev pub table_places : (count most top k n : ℕ) → Places
table_places count most top k n = record {
  marks = most;
  pieces = count;
  top = top;
  entries = entries_from count most;
  columns = k;
  texts = n;
}

-- a bit is 1 or 0
bit_or_none : (w i : ℕ) → (w / 2 ^ i % 2 ≡ 1) ⊎ (w / 2 ^ i % 2 ≡ 0)
bit_or_none w i = elim (dec_lt (w / 2 ^ i % 2) 1) [
  | yes h ↦ inr (omega arith)
  | no h ↦ inl (omega arith)
]

module _ {classes : List ℕ} {t : Tree Leaf} {rows : List ℕ} {count most : ℕ}
    {firsts columns : List ℕ} {texts : List (List ℕ)} {found room before after : List ℕ}
    (prepared : Prepared t rows count)
    (all : FoundAllStates classes t firsts texts found) (kept : FoundKept classes t texts found count most room)
    (written : TableWritten (table_places count most (top_of rows 0) (length firsts) (length texts)) columns room
    before after)
    (some : 1 ≤ count) where
  -- the bit of the first word of a text's marks says whether it is of the language
  accepting_bit : (i : ℕ) → i < length texts
      → Bit (get_or room (most + count * i) 0) (top_of rows 0) ↔ Matches classes t (get_or texts i [])
  accepting_bit i there =
      let word : get_or (marks_of count most room i) 0 0 ≡ get_or room (most + count * i) 0 =
      get_or-take count (drop (most + count * i) room) 0 0 some ∙ get_or-drop (most + count * i) room 0 0
      ∙ ap (λ (p : ℕ). get_or room p 0) (omega arith) in
      let answer = accepting_answer (kept.marks_kept i there) in
      rw (word, sym prepared.planned.0.topped) at answer

  -- so its entry is right
  accepts_right : (i : ℕ) → i < length texts
      → ((get_or after (257 + length firsts * (1 + length texts) + (1 + i)) 0 ≡ 1)
      × Matches classes t (get_or texts i []))
      ⊎ ((get_or after (257 + length firsts * (1 + length texts) + (1 + i)) 0 ≡ 0)
      × (Matches classes t (get_or texts i []) → ⊥))
  accepts_right i there = elim (bit_or_none (get_or room (most + count * i) 0) (top_of rows 0)) [
    | inl one ↦ inl (written.accepts i there ∙ one, (accepting_bit i there).0 one)
    | inr none ↦ inr (
      written.accepts i there ∙ none,
      λ matched. let one = (accepting_bit i there).1 matched in omega (arith, one, none),
    )
  ]

  -- where a column leads is as it was found
  leads_right : (i c : ℕ) → i < length texts → c < length firsts
      → get_or after (257 + c * (1 + length texts) + (1 + i)) 0 ≡ get_or found (i * length firsts + c) 0
  leads_right i c there column =
      let up : (i + 1) * length firsts ≤ length texts * length firsts =
      mul-le-mul_right (length firsts) (omega arith) in
      let within : i * length firsts + c < length found = omega (arith, all.over) in
      written.leads i c there column
      ∙ ap (λ (p : ℕ). get_or room p 0) (omega arith)
      ∙ kept.entries_kept (i * length firsts + c) within

  -- so the table is that of the states
  pub table_right : TableOf classes t firsts columns texts found before after
  table_right = record {
    begins = written.begins;
    accepting_begins = written.accepting_begins;
    nothing = written.nothing;
    leads = leads_right;
    nothing_accepts = written.nothing_accepts;
    accepts = accepts_right;
    others = written.others;
    same_length = written.same_length;
  }

-- what fits into a room fits into one of the same length
pub fits_in : {pieces width states table-length n m : ℕ} → n ≡ m → TableFits pieces width states table-length m
    → TableFits pieces width states table-length n
fits_in same fits = record { few = fits.few; in_table = fits.in_table; in_room = omega (arith, fits.in_room) }

-- there is a piece
pub some_piece : {t : Tree Leaf} {rows : List ℕ} {count : ℕ} → Prepared t rows count → 1 ≤ count
some_piece {t} prepared = omega (arith, prepared.counted, all_words t)

module _ {classes : List ℕ} {t : Tree Leaf} {rows : List ℕ} {count most : ℕ}
    {firsts columns : List ℕ} {texts : List (List ℕ)} {found room : List ℕ} (table : List ℕ)
    (prepared : Prepared t rows count) (columned : Columned classes t firsts columns)
    (all : FoundAllStates classes t firsts texts found) (kept : FoundKept classes t texts found count most room)
    (fits : TableFits count (length firsts) (1 + most) (length table) (length room)) (few : length texts ≤ most) where
  -- what was found can be written
  pub can_write : Writable (table_places count most (top_of rows 0) (length firsts) (length texts)) columns room table
  can_write =
      let k = length firsts in
      let entries_up : (k + 1) * (1 + length texts) ≤ (k + 1) * (1 + most) = mul-le-mul_left (k + 1) (omega arith) in
      let values_up : k * length texts ≤ k * most = mul-le-mul_left k few in
      let marks_up : count * length texts ≤ count * most = mul-le-mul_left count few in
      record {
        few = omega (arith, fits.few);
        in_table = omega (arith, fits.in_table);
        within = columned.within;
        entries_there = omega (arith, fits.in_room);
        marks_there = omega (arith, fits.in_room);
        some_piece = some_piece prepared;
        top_low = top_low prepared;
        states_only = λ p there.
            let known : p < length found = omega (arith, all.over) in
            rw (kept.entries_kept p known) (entry_within classes t firsts all.explored p known);
      }

module _ {classes : List ℕ} {t : Tree Leaf} {rows : List ℕ} {count most top k n : ℕ}
    {firsts columns room : List ℕ} (prepared : Prepared t rows count) (last : top ≡ top_of rows 0)
    (columned : Columned classes t firsts columns) (wide : length firsts ≡ k)
    (found : FoundAll classes t firsts count most room n) where
  -- all states that were found can be written
  pub found_writable : (table : List ℕ) → TableFits count k (1 + most) (length table) (length room)
      → Writable (table_places count most top k n) columns room table
  found_writable table fits =
      rw (wide, found.as_many, sym last) at
      (can_write table prepared columned found.found found.kept (rw wide fits)
      (omega (arith, found.as_many, found.fit)))

  -- and make the table
  pub found_written : {before after : List ℕ}
      → TableWritten (table_places count most top k n) columns room before after
      → TabulatingOutcome classes t firsts columns most before after (Some (record { states = 1 + n; entries = entry_count k (1 + n) }))
  found_written written =
      all_written found.texts found.entries found.found (omega (arith, found.as_many, found.fit))
      (table_right prepared found.found found.kept (rw (wide, found.as_many, sym last) written)
      (some_piece prepared))
      (ap (λ (m : ℕ). 1 + m) (sym found.as_many))
      (ap₂ (λ (w m : ℕ). entry_count w (1 + m)) (sym wide) (sym found.as_many))

-- where more were found than there is room for, they are not all
pub never_all : {classes : List ℕ} {t : Tree Leaf} {firsts : List ℕ} {most : ℕ} → TooMany classes t firsts most
    → (texts : List (List ℕ)) (found : List ℕ) → FoundAllStates classes t firsts texts found → length texts ≤ most → ⊥
never_all {classes} {t} {firsts} more texts found all few =
    omega (arith, all_found_most classes t firsts all more.explored, more.more)

-- there is a text, that of state 1
pub some_text : {classes : List ℕ} {t : Tree Leaf} {firsts : List ℕ} {texts : List (List ℕ)} {found : List ℕ}
    → FoundAllStates classes t firsts texts found → 1 ≤ length texts
some_text {classes} {t} {firsts} all = (first_text classes t firsts all.explored).0

module _ {classes : List ℕ} {t : Tree Leaf} {table after room cleared : List ℕ} where
  -- the answer is right, where `most` is the number of texts that fit
  pub tabulated : {firsts columns : List ℕ} {most : ℕ} (r : Option Made) → Columned classes t firsts columns
      → most ≡ most_texts (piece_count t) (length firsts) (length table) (length room)
      → cleared ≡ replicate (length room) 0 → TabulatingOutcome classes t firsts columns most table after r
      → Tabulates classes t table after room cleared r
  tabulated {firsts} {columns} {most} (Some answer) columned is clean
      (all_written texts found all few made states_are entries_are) =
      table_made record {
        firsts = firsts;
        columns = columns;
        texts = texts;
        found = found;
        columned = columned;
        all = all;
        fits = (fits_most (piece_count t) (length firsts) (length table) (length room) (length texts) (some_text all)).1
            (omega arith);
        made = made;
        states_are = states_are;
        entries_are = entries_are;
        room_cleared = clean;
      }
  tabulated {firsts} {columns} {most} None columned is clean (none_written none same) =
      does_not_fit record {
        never = λ others-firsts others-columns texts found others all fits.
            let (one, _) = columned_once others columned in
            let all_too : FoundAllStates classes t firsts texts found = rw one at all in
            let fits_too : TableFits (piece_count t) (length firsts) (1 + length texts) (length table) (length room) =
            rw one at fits in
            none texts found all_too
            (omega (
              arith,
              (fits_most (piece_count t) (length firsts) (length table) (length room) (length texts)
                  (some_text all_too)).0 fits_too,
            ));
        unchanged = same;
        room_cleared = clean;
      }

-- two results that fit the promise are equal: the answer, the table and the room
pub record OneResult (a b : List ℕ) (c d : List ℕ) (r s : Option Made) : Type 0 where
  pub same_table : a ≡ b
  pub same_room : c ≡ d
  pub same_answer : r ≡ s

-- a table of so many states and entries
abbrev made_of : (states entries : ℕ) → Made
made_of states entries = record { states = states; entries = entries }

module _ {classes : List ℕ} {t : Tree Leaf} {table a b room c d : List ℕ} where
  pub tabulates_once : (r s : Option Made) → Tabulates classes t table a room c r → Tabulates classes t table b room d s
      → OneResult a b c d r s
  tabulates_once (Some m) (Some n) (table_made one) (table_made other) =
      let (firsts, columns, texts, found) =
      states_once one.columned one.all other.columned other.all in
      let same_states : m.states ≡ n.states =
      one.states_are ∙ ap (λ (l : List (List ℕ)). 1 + length l) texts ∙ sym other.states_are in
      let same_entries : m.entries ≡ n.entries =
      one.entries_are
      ∙ ap₂ (λ (f : List ℕ) (l : List (List ℕ)). entry_count (length f) (1 + length l)) firsts texts
      ∙ sym other.entries_are in
      record {
        same_table = made_once one.columned one.all other.columned other.all one.made other.made;
        same_room = one.room_cleared ∙ sym other.room_cleared;
        same_answer = ap₂ (λ (states entries : ℕ). Some (made_of states entries)) same_states same_entries;
      }
  tabulates_once (Some m) None (table_made one) (does_not_fit other) =
      absurd (other.never one.firsts one.columns one.texts one.found one.columned one.all
      one.fits)
  tabulates_once None (Some n) (does_not_fit one) (table_made other) =
      absurd (one.never other.firsts other.columns other.texts other.found other.columned other.all
      other.fits)
  tabulates_once None None (does_not_fit one) (does_not_fit other) = record {
    same_table = one.unchanged ∙ sym other.unchanged;
    same_room = one.room_cleared ∙ sym other.room_cleared;
    same_answer = refl;
  }
