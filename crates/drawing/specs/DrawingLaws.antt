-- The lines of the records, one after the other.
use Rattle.std.specs.Prelude.{ℕ, zero, suc, ◌+◌, ◌*◌, ◌≤◌, ◌≡◌, refl, Bool, true, false, cond, List, [], ◌++◌, length, eqb}
use Rattle.std.proofs.Common.{sym, ap, ◌∙◌, append_assoc, append-nil, arith, length-append}
use Rattle.tree.specs.Layout.{piece_at}
use Rattle.tree.specs.Limits.{longest_expression, most_records}
use Rattle.operands.specs.Text.{bytes}
use Rattle.printing.specs.Printer.{HasRoom, Puts}
use Rattle.printing.specs.PrinterLaws.{puts_join, puts_none}
use Rattle.printing.specs.declared.print.Printer.{Printer}
use Rattle.record_line.specs.Depth.{untold, level, told_children}
use Rattle.record_line.specs.Node.{record_line, most_line}
use Rattle.record_line.specs.NodeLaws.{AllBytes, shown_length, line_length}
use Rattle.drawing.specs.DepthLaws.{level_low}
use Rattle.drawing.specs.MarksLaws.{marks_length}
use Rattle.drawing.specs.Drawing.{gap, lines_below, record_lines, most_drawn}
use Rattle.drawing.specs.Marks.{marks}
use Rattle.showing.specs.Shown.{shown}

-- no line for no records
pub lines_none : (list table : List ℕ) (above : ℕ) → lines_below list table above 0 ≡ []
unfolding lines_below
lines_none list table above = refl

-- one line, and those below it
pub lines_next : (list table : List ℕ) (above i : ℕ) → lines_below list table above (suc i)
    ≡ gap above (piece_at list i) ++ record_line list i (level table i)
    ++ lines_below list (told_children list table i (level table i)) (piece_at list i) i
unfolding lines_below
lines_next list table above i = refl

-- an empty line has one byte
pub gap_length : (above piece : ℕ) → length (gap above piece) ≤ 1
gap_length above piece = go (eqb above piece)
  where
    go : (test : Bool) → length (cond test [] (bytes "\n")) ≤ 1
    go true = omega arith
    go false = omega arith

-- one line, and those below it, from what the code has at hand
lines_are : (list table : List ℕ) (above i piece depth : ℕ) (told : List ℕ) → piece ≡ piece_at list i
    → depth ≡ level table i → told ≡ told_children list table i depth
    → gap above piece ++ record_line list i depth ++ lines_below list told piece i
    ≡ lines_below list table above (suc i)
lines_are list table above i piece depth told e f g = rw (g, f, e) (sym (lines_next list table above i))

-- what is printed so far, and the lines still to come, are all lines
pub record DrawnSoFar (whole : List ℕ) (first : Printer) (list table : List ℕ) (above i : ℕ) (now : Printer) :
    Type 0 where
  pub done : List ℕ
  pub puts : Puts first done now
  pub to_come : done ++ lines_below list table above i ≡ whole

-- nothing is printed yet
pub so_far_none : (first : Printer) (list table : List ℕ) (records : ℕ) → table ≡ untold
    → first.at ≤ length first.out.now
    → DrawnSoFar (record_lines list records) first list table 0 records first
so_far_none first list table records e h = record {
  done = [];
  puts = puts_none h;
  to_come = ap (λ (depths : List ℕ). lines_below list depths 0 records) e;
}

module _ {whole list table : List ℕ} {first now : Printer} {above records : ℕ} (i piece depth : ℕ)
    (last_is : records ≡ suc i) (e : piece ≡ piece_at list i) (f : depth ≡ level table i)
    (so : DrawnSoFar whole first list table above records now) where
  -- where there is room for all lines, there is room for the next
  pub so_far_room : HasRoom first (length whole)
      → HasRoom now (length (gap above piece) + length (record_line list i depth))
  so_far_room room =
      let next = lines_are list table above i piece depth (told_children list table i depth) e f refl
      ∙ ap (λ (n : ℕ). lines_below list table above n) (sym last_is) in
      omega (
        arith,
        room,
        so.puts.prints,
        simp length-append at (ap length so.to_come),
        simp length-append at (ap length next),
      )

  -- one line more
  pub so_far_next : {told : List ℕ} → told ≡ told_children list table i depth → {middle last : Printer}
      → Puts now (gap above piece) middle → Puts middle (record_line list i depth) last
      → DrawnSoFar whole first list told piece i last
  so_far_next {told} g p q = record {
    done = so.done ++ (gap above piece ++ record_line list i depth);
    puts = puts_join so.puts (puts_join p q);
    to_come =
        append_assoc so.done (gap above piece ++ record_line list i depth) (lines_below list told piece i)
        ∙ ap (λ (rest : List ℕ). so.done ++ rest) (lines_are list table above i piece depth told e f g)
        ∙ ap (λ (n : ℕ). so.done ++ lines_below list table above n) (sym last_is) ∙ so.to_come;
  }

-- all lines are printed
pub so_far_done : {whole list table : List ℕ} {first now : Printer} {above i : ℕ} → i ≡ 0
    → DrawnSoFar whole first list table above i now → Puts first whole now
so_far_done {list = list} {table = table} {above = above} e so =
    let all : so.done ≡ _ =
    sym (append-nil so.done) ∙ ap (λ (rest : List ℕ). so.done ++ rest) (sym (lines_none list table above))
    ∙ ap (λ (n : ℕ). so.done ++ lines_below list table above n) (sym e) ∙ so.to_come in
    rw all at so.puts

-- the lines have at most 92 bytes each, with the empty line before them
lines_length : (list table : List ℕ) (above i : ℕ) → AllBytes list → i ≤ most_records
    → length (lines_below list table above i) ≤ most_line * i
lines_length list table above zero small few = rw (lines_none list table above) (omega arith)
lines_length list table above (suc i) small few =
    let depth = level table i in
    let piece = piece_at list i in
    rw (lines_next list table above i, length-append, length-append)
    (omega (
      arith,
      gap_length above piece,
      line_length list small i depth (omega arith) (level_low table i),
      lines_length list (told_children list table i depth) piece i small (omega arith),
    ))

-- so the parts of a drawing have no more bytes together than a drawing may have
pub parts_length : (rule list : List ℕ) (records : ℕ) → AllBytes list → records ≤ most_records
    → length rule ≤ longest_expression
    → length (shown rule) + 1 + length (marks rule list records (length rule)) + 28
    + length (record_lines list records) ≤ most_drawn
parts_length rule list records small few short =
    omega (
      arith,
      shown_length rule,
      marks_length rule list records (length rule),
      lines_length list untold 0 records small few,
    )
