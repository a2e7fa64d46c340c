-- How the answers are written one after the other: what is written so far, and what is still to come.
use Rattle.std.specs.Prelude.{ℕ, ◌+◌, ◌-◌, ◌≤◌, ◌<◌, ◌≡◌, Bool, true, ◌↔◌, List, [], ◌∷◌, ◌++◌, length, take, drop, set}
use Rattle.std.proofs.Common.{arith, sym, ap, subst, ◌∙◌, append_assoc, append-nil, length-set}
use Rattle.tree.specs.Leaf.{Matches}
use Rattle.matching.specs.Found.{part}
use Rattle.matching.specs.PartLaws.{part_length}
use Rattle.finder.specs.Promise.{match_answered}
use Rattle.finder.specs.Refusals.{Answerable}
use Rattle.input.specs.Lines.{lines}
use Rattle.input.specs.Ends.{Ends, after_end}
use Rattle.input.proofs.EndLaws.{line_at, lent_part}
use Rattle.input.proofs.LineLaws.{NoneLonger, lines_within}
use Rattle.printing.specs.Printing.{printed, Prints}
use Rattle.printing.specs.PrintingLaws.{prints_none, prints_join, prints_byte}
use Rattle.lines.specs.Promise.{answer_byte, EachAnswered, no_line, line_answered, LinesWritten, MatchSays}
use Rattle.lines.specs.Unique.{one_at_most, each_length}

-- bytes printed at the front of a buffer
at_front : (buffer bytes : List ℕ) → printed buffer 0 bytes ≡ bytes ++ drop (length bytes) buffer
unfolding printed
at_front buffer bytes =
    let long : 0 + length bytes ≡ length bytes = omega arith in
    ap (λ (n : ℕ). bytes ++ drop n buffer) long

-- one line fewer is left after a line
pub fewer : (text : List ℕ) (place end : ℕ) → Ends text place end → place < length text
    → length (lines (drop place text)) ≡ length (lines (drop (after_end text end) text)) + 1
fewer text place end ends some = ap length (line_at text place end ends some) ∙ omega arith

-- there is a byte for each line that is left, after so many lines and yes lines
pub record LineSpace (left : List (List ℕ)) (count yes_lines : ℕ) (out : List ℕ) : Type 0 where
  pub ranked : yes_lines ≤ count
  pub enough : count + length left ≤ length out

module _ {text : List ℕ} {place count yes_lines : ℕ} {out : List ℕ}
    (s : LineSpace (lines (drop place text)) count yes_lines out)
    (end : ℕ) (ends : Ends text place end) (some : place < length text) where
  -- one of them is for the next line of a text
  pub space_here : count < length out
  space_here = omega (arith, s.enough, fewer text place end ends some)

-- one of them is for the next line, and the others are for those after it
pub space_next : {left later : List (List ℕ)} {line : List ℕ} {count yes_lines : ℕ} {out : List ℕ}
    → LineSpace left count yes_lines out → left ≡ line ∷ later → (matched : Bool)
    → LineSpace later (count + 1) (yes_lines + answer_byte matched) (set out count (answer_byte matched))
space_next {count = count} {out = out} s next matched = record {
  ranked = omega (arith, s.ranked, one_at_most matched);
  enough = omega (arith, s.enough, ap length next, length-set out count (answer_byte matched));
}

module _ (Says : List ℕ → Bool → Type 0) (text before : List ℕ) where
  -- what is written so far, where these lines are left
  pub record LinesSoFar (left : List (List ℕ)) (count yes_lines : ℕ) (out : List ℕ) : Type 0 where
    pub written : List ℕ
    pub prints : Prints before 0 written out count
    pub to_come : (bytes : List ℕ) (more : ℕ) → EachAnswered Says left bytes more
        → EachAnswered Says (lines text) (written ++ bytes) (yes_lines + more)

  -- nothing at first
  pub so_far_none : {left : List (List ℕ)} → left ≡ lines text → LinesSoFar left 0 0 before
  so_far_none all = record {
    written = [];
    prints = prints_none before 0 (omega arith);
    to_come = λ bytes more each.
        subst (λ (n : ℕ). EachAnswered Says (lines text) bytes n) (omega arith)
        (subst (λ (l : List (List ℕ)). EachAnswered Says l bytes more) all each);
  }

  -- the byte of one more line
  pub so_far_next : {left later : List (List ℕ)} {line : List ℕ} {count yes_lines : ℕ} {out : List ℕ}
      → LinesSoFar left count yes_lines out → left ≡ line ∷ later → count < length out → (matched : Bool)
      → Says line matched
      → LinesSoFar later (count + 1) (yes_lines + answer_byte matched) (set out count (answer_byte matched))
  so_far_next {count = count} {yes_lines} {out} so next room matched says = record {
    written = so.written ++ (answer_byte matched ∷ []);
    prints = prints_join so.prints (prints_byte out count (answer_byte matched) room);
    to_come = λ bytes more each.
        subst (λ (n : ℕ). EachAnswered Says (lines text) (so.written ++ (answer_byte matched ∷ []) ++ bytes) n)
        (omega arith)
        (subst (λ (l : List ℕ). EachAnswered Says (lines text) l (yes_lines + (answer_byte matched + more)))
        (sym (append_assoc so.written (answer_byte matched ∷ []) bytes))
        (so.to_come (answer_byte matched ∷ bytes) (answer_byte matched + more)
        (subst (λ (l : List (List ℕ)). EachAnswered Says l (answer_byte matched ∷ bytes) (answer_byte matched + more))
        (sym next) (line_answered says each))));
  }

  -- all, where no line is left
  pub so_far_done : {left : List (List ℕ)} {count yes_lines : ℕ} {out : List ℕ}
      → LinesSoFar left count yes_lines out → left ≡ [] → length (lines text) ≤ length before
      → LinesWritten Says text before out count yes_lines
  so_far_done {left} {count} {yes_lines} {out} so none room =
      let last : EachAnswered Says left [] 0 =
      subst (λ (l : List (List ℕ)). EachAnswered Says l [] 0) (sym none) no_line in
      let each : EachAnswered Says (lines text) so.written yes_lines =
      subst (λ (n : ℕ). EachAnswered Says (lines text) so.written n) (omega arith)
      (subst (λ (l : List ℕ). EachAnswered Says (lines text) l (yes_lines + 0)) (append-nil so.written)
      (so.to_come [] 0 last)) in
      let long : length so.written ≡ length (lines text) = each_length each in
      record {
        bytes = so.written;
        each = each;
        counted = so.prints.next_place ∙ omega (arith, long);
        room = room;
        stored = so.prints.written ∙ at_front before so.written
            ∙ ap (λ (n : ℕ). so.written ++ drop n before) long;
      }

module _ {Says Tells : List ℕ → Bool → Type 0} (most : ℕ)
    (tells : (line : List ℕ) (matched : Bool) → length line ≤ most → Says line matched → Tells line matched) where
  -- what is said of each line tells something else of it
  each_tells : {texts : List (List ℕ)} {bytes : List ℕ} {yes_lines : ℕ} → NoneLonger most texts
      → EachAnswered Says texts bytes yes_lines → EachAnswered Tells texts bytes yes_lines
  each_tells short no_line = no_line
  each_tells short (line_answered {line} {matched = m} says each) =
      line_answered (tells line m short.0 says) (each_tells short.1 each)

-- so the same answers are written, for no line is longer than the text
pub written_tells : {Says Tells : List ℕ → Bool → Type 0} {text before after : List ℕ} {count yes_lines : ℕ}
    → ((line : List ℕ) (matched : Bool) → length line ≤ length text → Says line matched → Tells line matched)
    → LinesWritten Says text before after count yes_lines → LinesWritten Tells text before after count yes_lines
written_tells {text = text} tells w = record {
  bytes = w.bytes;
  each = each_tells (length text) tells (lines_within text) w.each;
  counted = w.counted;
  room = w.room;
  stored = w.stored;
}

-- what the rows of the list's tree say of a line that is no longer than the text is what match answers for it
pub line_says : {list classes text : List ℕ} (taken : Answerable list classes text) (line : List ℕ) (matched : Bool)
    → length line ≤ length text → (matched ≡ true) ↔ Matches classes taken.t line
    → MatchSays list classes line matched
line_says taken line matched short says = match_answered (record {
  t = taken.t;
  good = taken.good;
  classed = taken.classed;
  short = omega (arith, taken.short, short);
  holds = says;
})

-- the answer for the part that is lent is what match answers for the line
pub lent_says : {list classes text : List ℕ} (taken : Answerable list classes text) {place end : ℕ}
    → Ends text place end → (matched : Bool)
    → (matched ≡ true) ↔ Matches classes taken.t (take (end - place) (drop place text))
    → MatchSays list classes (part place end text) matched
lent_says {text = text} taken {place} {end} ends matched says = match_answered (record {
  t = taken.t;
  good = taken.good;
  classed = taken.classed;
  short = omega (arith, taken.short, part_length place end text ends.inside, ends.inside);
  holds = rw (lent_part place end text ends.ordered (omega (arith, ends))) at says;
})
