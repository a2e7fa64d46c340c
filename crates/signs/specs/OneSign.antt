-- One sign after an operand: each makes an operand of what was read, and a count that is not of the form is refused.
use Rattle.std.specs.Prelude.{ℕ, ◌+◌, ◌<◌, ◌≤◌, ◌≡◌, refl, Bool, List, [], ◌∷◌, length, get_or}
use Rattle.std.proofs.Common.{arith}
use Rattle.language.specs.PlacedStandsFor.{placed_repeated, placed_perhaps, placed_times}
use Rattle.tree.specs.RefusalNumbers.{count_faulty}
use Rattle.tree.specs.Limits.{slot_count}
use Rattle.tree.specs.Leaf.{Leaf}
use Rattle.repeats.specs.Noted.{note}
use Rattle.repeats.specs.Labelled.{Appended, Relabels, RelabelsFrom}
use Rattle.counts.specs.CountRun.{count_at, failed}
use Rattle.counts.specs.CountReading.{CountHere}
use Rattle.operands.specs.Bytes.{Syntax, first as first-syntax, second}
use Rattle.operands.specs.Stopping.{stops_starred}
use Rattle.operands.specs.Surroundings.{fails_count}
use Rattle.operands.specs.Grammar.{starred}
use Rattle.operands.specs.Reading.{Carries, Breaks, OneSign, no_sign, one_sign, SignsRead}
use Rattle.operands.specs.ReadingLaws.{went_star, went_more, went_optional, went_counted}
use Rattle.operands.specs.FirstSyntax.{not_second}

module _ {places : Bool} {bytes : List ℕ} {first place count : ℕ} {earlier : List ℕ} (h : place < length bytes) where
  -- no sign: nothing changes
  pub no_first_sign : (get_or bytes place 0 ≡ 42 → ⊥) → OneSign first-syntax places bytes first place count earlier place
      count earlier
  no_first_sign no_star =
      no_sign refl refl refl (stops_starred first-syntax bytes place h no_star (λ e. not_second e))

  pub no_second_sign : (get_or bytes place 0 ≡ 42 → ⊥) → (get_or bytes place 0 ≡ 43 → ⊥) → (get_or bytes place 0 ≡ 63 → ⊥)
      → (get_or bytes place 0 ≡ 123 → ⊥) → OneSign second places bytes first place count earlier place count earlier
  no_second_sign no_star no_plus no_question no_brace =
      no_sign refl refl refl (stops_starred second bytes place h no_star (λ _. (no_plus, no_question, no_brace)))

  -- a count that is not of the form is refused at its `{`
  pub bad_count : get_or bytes place 0 ≡ 123 → count_at bytes place ≡ failed
      → Breaks second places bytes first place count earlier count_faulty place
  bad_count e f = record { fails = λ depth at start w. fails_count place w.leads h e f }

  module _ {total : ℕ} {later : List ℕ} where
    -- a `*`
    pub star_sign : {syntax : Syntax} → get_or bytes place 0 ≡ 42 → count ≤ slot_count
        → Appended earlier count (note places 4 place ∷ []) total later
        → OneSign syntax places bytes first place count earlier (place + 1) total later
    star_sign e few p =
        one_sign (omega arith) (omega arith) (omega (arith, p.counted)) (omega (arith, p.counted))
        (λ depth. record { on = λ at start w. went_star w h e p })

    -- a `+`
    pub plus_sign : get_or bytes place 0 ≡ 43 → RelabelsFrom places first count earlier (placed_repeated place)
        total later
        → OneSign second places bytes first place count earlier (place + 1) total later
    plus_sign e r =
        one_sign (omega arith) (omega arith) r.grown r.few
        (λ depth. record { on = λ at start w. went_more w h e r })

    -- a `?`
    pub question_sign : get_or bytes place 0 ≡ 63 → Relabels places count earlier (placed_perhaps Leaf.empty_text place)
        total later
        → OneSign second places bytes first place count earlier (place + 1) total later
    question_sign e r =
        one_sign (omega arith) (omega arith) r.grown r.few
        (λ depth. record { on = λ at start w. went_optional w h e r })

    -- a count
    pub count_sign : {next fewest most : ℕ} → get_or bytes place 0 ≡ 123
        → CountHere bytes place (count_at bytes place) next fewest most
        → RelabelsFrom places first count earlier (placed_times Leaf.empty_text place fewest most) total later
        → OneSign second places bytes first place count earlier next total later
    count_sign e c r =
        one_sign c.further c.within r.grown r.few
        (λ depth. record { on = λ at start w. went_counted w h e c r })

-- one sign after the other: what was carried up to `place` goes on by what the reader of one sign found there
module _ {syntax : Syntax} {places : Bool} {bytes : List ℕ} {first begin start place count : ℕ}
    {before earlier : List ℕ}
    (so_far : (depth : ℕ) → Carries syntax places starred bytes depth first begin start before place count
    earlier) where
  -- a refusal there is the refusal of all
  pub breaks_there : {number fault : ℕ} → Breaks syntax places bytes first place count earlier number fault
      → Breaks syntax places bytes first begin start before number fault
  breaks_there b = record { fails = λ depth at list w. b.fails depth at list ((so_far depth).on at list w) }

  -- where no sign was found, all are read
  pub all_read : {next total : ℕ} {later : List ℕ} → OneSign syntax places bytes first place count earlier next
      total later
      → next ≡ place → SignsRead syntax places bytes first begin start before place count later
  all_read (no_sign same counted kept stops) e = record { carries = λ depth. rw kept (so_far depth); stops = stops }
  all_read (one_sign further within grown few on) e = absurd (omega arith)

  -- where one was found, it is one more
  pub one_more : {next total : ℕ} {later : List ℕ} → OneSign syntax places bytes first place count earlier next
      total later
      → (next ≡ place → ⊥) → (depth : ℕ) → Carries syntax places starred bytes depth first begin start before next
      total later
  one_more (no_sign same counted kept stops) other depth = absurd (other same)
  one_more (one_sign further within grown few on) other depth =
      record { on = λ at list w. (on depth).on at list ((so_far depth).on at list w) }

-- where no sign was found, nothing more is noted
pub none_noted : {syntax : Syntax} {places : Bool} {bytes : List ℕ} {first place count next total : ℕ}
    {earlier later : List ℕ} → OneSign syntax places bytes first place count earlier next total later → next ≡ place
    → total ≡ count
none_noted (no_sign same counted kept stops) e = counted
none_noted (one_sign further within grown few on) e = absurd (omega arith)

-- a sign that was found takes a byte at least, and the labels do not become fewer
pub record SignFound (bytes : List ℕ) (place count next total : ℕ) : Type 0 where
  pub further : place < next
  pub within : next ≤ length bytes
  pub grown : count ≤ total
  pub few : total ≤ slot_count

pub found : {syntax : Syntax} {places : Bool} {bytes : List ℕ} {first place count next total : ℕ}
    {earlier later : List ℕ}
    → OneSign syntax places bytes first place count earlier next total later → (next ≡ place → ⊥)
    → SignFound bytes place count next total
found (no_sign same counted kept stops) other = absurd (other same)
found (one_sign further within grown few on) other =
    record { further = further; within = within; grown = grown; few = few }
