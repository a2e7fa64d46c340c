-- A table is written in four parts: the begins of the bytes' columns, that of accepting, the columns, and accepting.
use Rattle.std.specs.Prelude.{ℕ, suc, ◌+◌, ◌*◌, ◌≤◌, ◌<◌, ◌≡◌, List, length, get_or, drop}
use Rattle.std.proofs.Common.{arith, mul-le-mul_right, mul-le-mul_left, sym, ap, ◌∙◌, inl, inr, length-drop, ext_get_or, get_or-drop}
use Rattle.running.specs.Runs.{accepting_column}
use Rattle.machines.specs.Columns.{byte_count}
use Rattle.machines.specs.TableOf.{heading, most_entries, entry_count}
use Rattle.writing.specs.declared.Places.{Places}
use Rattle.writing.specs.Filled.{Filled, RowsFilled, after_zero}
use Rattle.writing.specs.Written.{begin_of, led_to, accepted, Writable, TableWritten}

-- lists that are the same from some place on
same_from : (n : ℕ) (a b : List ℕ) → length a ≡ length b → ((p : ℕ) → n ≤ p → get_or a p 0 ≡ get_or b p 0)
    → drop n a ≡ drop n b
same_from n a b long same =
    ext_get_or 0 (drop n a) (drop n b) (length-drop n a ∙ omega (arith, long) ∙ sym (length-drop n b))
    (λ i there. get_or-drop n a i 0 ∙ same (n + i) (omega arith) ∙ sym (get_or-drop n b i 0))

-- a column before the last begins before it and ends no later
pub before_last : (c k states : ℕ) → c < k → begin_of c states + states ≤ begin_of k states
before_last c k states l = let up : (c + 1) * states ≤ k * states = mul-le-mul_right states (omega arith) in omega arith

-- the value of a text in a column is one of them
pub value_there : (columns texts c i : ℕ) → c < columns → i < texts → c + columns * i < columns * texts
value_there columns texts c i l there =
    let up : columns * (i + 1) ≤ columns * texts = mul-le-mul_left columns (omega arith) in
    omega arith

-- how many states there are
abbrev states_of : Places → ℕ
states_of places = 1 + places.texts

module _ (places : Places) (columns room : List ℕ) {first second third fourth last : List ℕ}
    (bytes : Filled 0 byte_count (λ b. begin_of (get_or columns b 0) (states_of places)) first second)
    (accepting : Filled accepting_column 1 (λ _. begin_of places.columns (states_of places)) second third)
    (each : RowsFilled heading (states_of places) places.columns
    (λ c. after_zero (led_to places room c)) third fourth)
    (ends : Filled (begin_of places.columns (states_of places)) (states_of places)
    (after_zero (accepted places room)) fourth last) where
  -- the last part changes nothing before it, nor do the columns change the heading
  before_ends : (p : ℕ) → p < begin_of places.columns (states_of places) → get_or last p 0 ≡ get_or fourth p 0
  before_ends p l = ends.outside p (inl l)

  in_heading : (p : ℕ) → p < heading → get_or last p 0 ≡ get_or third p 0
  in_heading p l = before_ends p (omega arith) ∙ each.outside p (inl l)

  -- an entry of a column
  in_column : (c s : ℕ) → c < places.columns → s < states_of places
      → get_or last (begin_of c (states_of places) + s) 0 ≡ after_zero (led_to places room c) s
  in_column c s l there =
      before_ends (begin_of c (states_of places) + s)
      (omega (arith, before_last c places.columns (states_of places) l))
      ∙ each.inside c s l there

  -- an entry past all
  past_all : (p : ℕ) → entry_count places.columns (states_of places) ≤ p → get_or last p 0 ≡ get_or first p 0
  past_all p past =
      ends.outside p (inr (omega arith)) ∙ each.outside p (inr (omega arith))
      ∙ accepting.outside p (inr (omega arith)) ∙ bytes.outside p (inr (omega arith))

  -- the four parts make the table
  pub written : TableWritten places columns room first last
  written = record {
    begins = λ b byte. in_heading b (omega arith) ∙ accepting.outside b (inl byte)
        ∙ ap (λ (p : ℕ). get_or second p 0) (omega arith) ∙ bytes.inside b byte;
    accepting_begins = in_heading accepting_column (omega arith) ∙ accepting.inside 0 (omega arith);
    nothing = λ c l. ap (λ (p : ℕ). get_or last p 0) (omega arith) ∙ in_column c 0 l (omega arith);
    leads = λ i c there l.
        ap (λ (p : ℕ). get_or last p 0) (omega arith) ∙ in_column c (suc i) l (omega arith);
    nothing_accepts = ap (λ (p : ℕ). get_or last p 0) (omega arith) ∙ ends.inside 0 (omega arith);
    accepts = λ i there. ap (λ (p : ℕ). get_or last p 0) (omega arith) ∙ ends.inside (suc i) (omega arith);
    others = same_from (entry_count places.columns (states_of places)) last first long past_all;
    same_length = long;
  }
    where
      long : length last ≡ length first
      long = ends.same_length ∙ each.same_length ∙ accepting.same_length ∙ bytes.same_length

module _ {places : Places} {columns room table : List ℕ} (writable : Writable places columns room table) where
  -- every begin fits into an entry
  pub begins_fit : (b : ℕ) → b < byte_count
      → (get_or columns b 0 < most_entries) × (begin_of (get_or columns b 0) (states_of places) < most_entries)
  begins_fit b byte =
      let before = before_last (get_or columns b 0) places.columns (states_of places) (writable.within b byte) in
      (omega (arith, writable.few, writable.within b byte), omega (arith, writable.few, before))

  -- the column of accepting has room in the table
  pub ends_fit : begin_of places.columns (states_of places) + states_of places ≤ length table
  ends_fit = omega (arith, writable.in_table)

  -- its begin fits into an entry
  pub accepting_fits : begin_of places.columns (states_of places) < most_entries
  accepting_fits = omega (arith, writable.few)

  -- every value fits into an entry
  pub values_fit : (p : ℕ) → p < places.columns * places.texts → get_or room (places.entries + p) 0 < most_entries
  values_fit p there = omega (arith, writable.states_only p there, writable.few)

  -- there is a word for each text
  pub words_there : (i : ℕ) → i < places.texts → places.marks + places.pieces * i < length room
  words_there i there =
      let up : places.pieces * (i + 1) ≤ places.pieces * places.texts =
      mul-le-mul_left places.pieces (omega arith) in
      omega (arith, writable.marks_there, writable.some_piece)
