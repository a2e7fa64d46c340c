-- The table of columns and states is one only: each of its entries is told.
use Rattle.std.specs.Prelude.{ℕ, zero, suc, ◌+◌, ◌*◌, ◌-◌, ◌/◌, ◌%◌, ◌≤◌, ◌<◌, ◌≡◌, List, length, get_or, drop}
use Rattle.std.proofs.Common.{arith, div-lt_iff_lt-mul, div-add-mod', mod-lt, ap, sym, ◌∙◌, inl, inr, ext_get_or, get_or-drop}
use Rattle.std.proofs.Math.Decide.{dec_lt}
use Rattle.language.specs.Tree.{Tree}
use Rattle.tree.specs.Leaf.{Leaf}
use Rattle.running.specs.Runs.{accepting_column}
use Rattle.machines.specs.Columns.{byte_count}
use Rattle.machines.specs.TableOf.{heading, entry_count, TableOf}

-- the element past n others, by what is left without them
past : (n i : ℕ) (l : List ℕ) → n ≤ i → get_or l i 0 ≡ get_or (drop n l) (i - n) 0
past n i l beyond = ap (λ (k : ℕ). get_or l k 0) (omega arith) ∙ sym (get_or-drop n l (i - n) 0)

module _ {classes : List ℕ} {t : Tree Leaf} {firsts columns : List ℕ} {texts : List (List ℕ)}
    {entries before a b : List ℕ} (one : TableOf classes t firsts columns texts entries before a)
    (other : TableOf classes t firsts columns texts entries before b) where
  -- where the column c begins, past the heading
  abbrev column_begin : ℕ → ℕ
  column_begin c = heading + c * (1 + length texts)

  -- whether a state accepts
  same_accepting : (i : ℕ) → i < length texts
      → get_or a (column_begin (length firsts) + (1 + i)) 0 ≡ get_or b (column_begin (length firsts) + (1 + i)) 0
  same_accepting i there = elim (one.accepts i there) [
    | inl (is, matched) ↦ elim (other.accepts i there) [
      | inl (same, too) ↦ is ∙ sym same
      | inr (same, not) ↦ absurd (not matched)
    ]
    | inr (is, not) ↦ elim (other.accepts i there) [
      | inl (same, matched) ↦ absurd (not matched)
      | inr (same, neither) ↦ is ∙ sym same
    ]
  ]

  -- the entry of state 0 in a column
  same_nothing : (c : ℕ) → c ≤ length firsts → get_or a (column_begin c) 0 ≡ get_or b (column_begin c) 0
  same_nothing c within = elim (dec_lt c (length firsts)) [
    | yes h ↦ one.nothing c h ∙ sym (other.nothing c h)
    | no h ↦
        let last : c ≡ length firsts = omega arith in
        rw last (one.nothing_accepts ∙ sym other.nothing_accepts)
  ]

  -- the entry of another
  same_state : (c i : ℕ) → c ≤ length firsts → i < length texts
      → get_or a (column_begin c + (1 + i)) 0 ≡ get_or b (column_begin c + (1 + i)) 0
  same_state c i within there = elim (dec_lt c (length firsts)) [
    | yes h ↦ one.leads i c there h ∙ sym (other.leads i c there h)
    | no h ↦
        let last : c ≡ length firsts = omega arith in
        rw last (same_accepting i there)
  ]

  -- the entry of any state in any column
  same_in_column : (c s : ℕ) → c ≤ length firsts → s < 1 + length texts
      → get_or a (column_begin c + s) 0 ≡ get_or b (column_begin c + s) 0
  same_in_column c zero within there =
      let none : column_begin c + 0 ≡ column_begin c = omega arith in
      rw none (same_nothing c within)
  same_in_column c (suc i) within there =
      let next : column_begin c + suc i ≡ column_begin c + (1 + i) = omega arith in
      rw next (same_state c i within (omega arith))

  -- an entry past the heading
  same_entry : (n : ℕ) → heading ≤ n → n < entry_count (length firsts) (1 + length texts)
      → get_or a n 0 ≡ get_or b n 0
  same_entry n beyond within =
      let states = 1 + length texts in
      let m = n - heading in
      let some : 0 < states = omega arith in
      let few : m < (length firsts + 1) * states = omega arith in
      let in_columns : m / states < length firsts + 1 = (div-lt_iff_lt-mul some).1 few in
      let at : column_begin (m / states) + m % states ≡ n = omega (arith, div-add-mod' m states) in
      rw at at (same_in_column (m / states) (m % states) (omega arith) (mod-lt m some))

  -- an entry of the heading
  same_heading : (n : ℕ) → n < heading → get_or a n 0 ≡ get_or b n 0
  same_heading n within = elim (dec_lt n byte_count) [
    | yes h ↦ one.begins n h ∙ sym (other.begins n h)
    | no h ↦
        let last : n ≡ accepting_column = omega arith in
        rw last (one.accepting_begins ∙ sym other.accepting_begins)
  ]

  -- an entry past the table
  same_beyond : (n : ℕ) → entry_count (length firsts) (1 + length texts) ≤ n → get_or a n 0 ≡ get_or b n 0
  same_beyond n beyond =
      let all = entry_count (length firsts) (1 + length texts) in
      past all n a beyond ∙ ap (λ (l : List ℕ). get_or l (n - all) 0) (one.others ∙ sym other.others)
      ∙ sym (past all n b beyond)

  -- each entry
  same_everywhere : (n : ℕ) → get_or a n 0 ≡ get_or b n 0
  same_everywhere n = elim (dec_lt n heading) [
    | yes h ↦ same_heading n h
    | no h ↦ elim (dec_lt n (entry_count (length firsts) (1 + length texts))) [
      | yes in_table ↦ same_entry n (omega arith) in_table
      | no beyond ↦ same_beyond n (omega arith)
    ]
  ]

  -- the result: the table is told by its columns, its states and what was there before
  pub table_once : a ≡ b
  table_once = ext_get_or 0 a b (one.same_length ∙ sym other.same_length) (λ n there. same_everywhere n)
