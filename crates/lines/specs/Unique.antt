-- The promise leaves no choice: two results that fit it are the same, with every byte of the buffer.
use Rattle.std.specs.Prelude.{ℕ, ◌+◌, ◌≤◌, ◌≡◌, refl, Bool, true, false, List, ◌∷◌, ◌++◌, length, drop}
use Rattle.std.proofs.Common.{arith, sym, ap, ◌∙◌}
use Rattle.language.specs.Tree.{Tree}
use Rattle.tree.specs.Leaf.{Leaf}
use Rattle.finder.specs.declared.numbers.FoundNumbers.{FoundNumbers}
use Rattle.finder.specs.Promise.{OfGood, Refuses}
use Rattle.finder.specs.Refusals.{Answerable, refused, taken_exactly, reason_unique, numbered}
use Rattle.finder.specs.Unique.{match_unique}
use Rattle.input.specs.Lines.{lines}
use Rattle.lines.specs.Answer.{LinesNumbers, refusing_lines, counting_lines}
use Rattle.lines.specs.Promise.{
  answer_byte,
  EachAnswered,
  no_line,
  line_answered,
  LinesWritten,
  MatchSays,
  LinesAnswers,
  lines_refused,
  lines_no_room,
  lines_answered,
}

-- the byte of a line is 1 at most
pub one_at_most : (matched : Bool) → answer_byte matched ≤ 1
one_at_most true = omega arith
one_at_most false = omega arith

module _ {Says : List ℕ → Bool → Type 0} where
  -- there is a byte for each line
  pub each_length : {texts : List (List ℕ)} {bytes : List ℕ} {yes_lines : ℕ} → EachAnswered Says texts bytes yes_lines
      → length bytes ≡ length texts
  each_length no_line = refl
  each_length (line_answered says each) = omega (arith, each_length each)

  -- no more of them are yes than there are
  pub each_yes : {texts : List (List ℕ)} {bytes : List ℕ} {yes_lines : ℕ} → EachAnswered Says texts bytes yes_lines
      → yes_lines ≤ length texts
  each_yes no_line = omega arith
  each_yes (line_answered {matched = m} says each) = omega (arith, each_yes each, one_at_most m)

  module _ (one-says : (line : List ℕ) (m n : Bool) → Says line m → Says line n → m ≡ n) where
    -- where one thing is said of each line, the bytes and their count are known
    each_unique : {texts : List (List ℕ)} {bytes bytes' : List ℕ} {yes_lines yes-lines' : ℕ}
        → EachAnswered Says texts bytes yes_lines → EachAnswered Says texts bytes' yes-lines'
        → (bytes ≡ bytes') × (yes_lines ≡ yes-lines')
    each_unique no_line no_line = (refl, refl)
    each_unique (line_answered {line} {matched = m} says each) (line_answered {matched = n} says' each') =
        let same = one-says line m n says says' in
        let (bytes, counts) = each_unique each each' in
        (joined same bytes, summed same counts)
      where
        joined : {m n : Bool} {b c : List ℕ} → m ≡ n → b ≡ c → answer_byte m ∷ b ≡ answer_byte n ∷ c
        joined e f = cc

        summed : {m n : Bool} {b c : ℕ} → m ≡ n → b ≡ c → answer_byte m + b ≡ answer_byte n + c
        summed e f = cc

    -- so is the buffer, with both counts
    pub written_unique : {text before after after' : List ℕ} {count count' yes_lines yes-lines' : ℕ}
        → LinesWritten Says text before after count yes_lines
        → LinesWritten Says text before after' count' yes-lines'
        → (counting_lines count yes_lines ≡ counting_lines count' yes-lines') × (after ≡ after')
    written_unique {text} {before} a b =
        let (bytes, yes_lines) = each_unique a.each b.each in (
          both (a.counted ∙ sym b.counted) yes_lines,
          a.stored ∙ ap (λ (l : List ℕ). l ++ drop (length (lines text)) before) bytes ∙ sym b.stored,
        )
      where
        both : {m n k l : ℕ} → m ≡ n → k ≡ l → counting_lines m k ≡ counting_lines n l
        both e f = cc

-- match says one thing of a line
pub match_says_one : (list classes line : List ℕ) (m n : Bool) → MatchSays list classes line m
    → MatchSays list classes line n → m ≡ n
match_says_one list classes line m n a b =
    ap (λ (k : FoundNumbers). k.matched) (match_unique list classes line a b)

-- what match refuses is not taken
not_taken : {A : Type 0} {list classes text : List ℕ} {number : ℕ} {P : Tree Leaf → Type 0}
    → Refuses list classes text number → OfGood list classes text P → A
not_taken {list = list} {classes} {text} r a =
    let taken : Answerable list classes text =
    record { t = a.t; good = a.good; classed = a.classed; short = a.short } in
    absurd (numbered list classes text r ((taken_exactly list classes text (refused r)).1 taken))

module _ {list classes text before : List ℕ} where
  -- two results that both fit the promise are equal
  pub lines_unique : {after after' : List ℕ} {n n' : LinesNumbers} → LinesAnswers list classes text before after n
      → LinesAnswers list classes text before after' n' → (n ≡ n') × (after ≡ after')
  lines_unique (lines_refused r e) (lines_refused s f) =
      (ap refusing_lines (reason_unique list classes text (refused r) (refused s)), e ∙ sym f)
  lines_unique (lines_refused r e) (lines_no_room b f) = not_taken r b
  lines_unique (lines_refused r e) (lines_answered b) = not_taken r b
  lines_unique (lines_no_room a e) (lines_refused s f) = not_taken s a
  lines_unique (lines_no_room a e) (lines_no_room b f) = (refl, e ∙ sym f)
  lines_unique (lines_no_room a e) (lines_answered b) = absurd (omega (arith, a.holds, b.holds.room))
  lines_unique (lines_answered a) (lines_refused s f) = not_taken s a
  lines_unique (lines_answered a) (lines_no_room b f) = absurd (omega (arith, a.holds.room, b.holds))
  lines_unique (lines_answered a) (lines_answered b) =
      written_unique (match_says_one list classes) a.holds b.holds
