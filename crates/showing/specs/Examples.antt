-- Refusals as they are shown.
use Rattle.std.specs.Prelude.{◌≡◌, refl, ◌∷◌, ◌++◌, replicate}
use Rattle.operands.specs.Text.{bytes}
use Rattle.printing.specs.Digits.{digits_within, digits}
use Rattle.showing.specs.Shown.{shown_byte, shown, spaces}
use Rattle.showing.specs.CutShort.{
  fitting,
  cut_begins,
  cut_start,
  cut_end,
  before_place,
  from_place,
  marked_lines,
}
use Rattle.wording.specs.RefusalWords.{all_refusal_words, words, told_line}
use Rattle.showing.specs.Refusal.{refusal_lines}

-- a group that is left open
open_group : refusal_lines (bytes "02-2(8|9") 4 4
    ≡ bytes "02-2(8|9\n" ++ bytes "    ^\n" ++ bytes "refused 4 at 4: this group is not closed\n"
unfolding digits_within digits shown_byte shown spaces fitting cut_begins cut_start cut_end before_place from_place
    marked_lines all_refusal_words words told_line
open_group = refl

-- a byte that cannot be shown takes four columns
coded : refusal_lines (9 ∷ bytes "*)") 5 2
    ≡ bytes "\\x09*)\n" ++ bytes "     ^\n" ++ bytes "refused 5 at 2: no group is open for this ) to close\n"
unfolding digits_within digits shown_byte shown spaces fitting cut_begins cut_start cut_end before_place from_place
    marked_lines all_refusal_words words told_line
coded = refl

-- a long expression is cut on both sides
long : marked_lines (replicate 60 97 ++ bytes "|*" ++ replicate 60 98) 61
    ≡ bytes "..." ++ replicate 35 97 ++ bytes "|*" ++ replicate 35 98 ++ bytes "...\n" ++ replicate 39 32 ++ bytes "^\n"
unfolding shown_byte shown spaces fitting cut_begins cut_start cut_end before_place from_place marked_lines
long = refl
