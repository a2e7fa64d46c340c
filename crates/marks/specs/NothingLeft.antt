-- Where nothing is left, nothing comes back: words that are 0 stay 0 on every later byte and on every later text, and
-- no text that begins so is in the language.
use Rattle.std.specs.Prelude.{ℕ, suc, ◌+◌, ◌≡◌, true, List, [], ◌∷◌, ◌++◌}
use Rattle.std.proofs.Common.{arith, ap, subst, sym}
use Rattle.language.specs.Tree.{Tree}
use Rattle.tree.specs.Leaf.{Leaf, Matches}
use Rattle.tree.specs.Records.{Good, piece_count}
use Rattle.lists.specs.Readback.{good_unique}
use Rattle.tree.specs.Pieces.{cut_up}
use Rattle.tables.specs.Words.{run}
use Rattle.marks.specs.Answer.{MarksNumbers}
use Rattle.closing.specs.BitsOfWords.Zero.{AllZero}
use Rattle.closing.specs.BitsOfWords.AllZero.{zero_holds}
use Rattle.closing.specs.BitsOfWords.KnownByMarks.{zero_alike}
use Rattle.marks.specs.Promise.{
  RefusedUnchanged,
  MovesOn,
  Steps,
  step_not_good,
  step_too_few_classes,
  step_too_few,
  step_not_marks,
  stepped,
}
use Rattle.marks.specs.Chain.{Follows}
use Rattle.stepping.specs.Texts.{all_words, nothing_left}

-- from the words `before`, a step for each byte of w, none of them refused, leaves the words `after`
pub data SteppedAlong (list classes before : List ℕ) : (w after : List ℕ) → Type 0 where
  none_yet : SteppedAlong list classes before [] before
  one_further : {w after later : List ℕ} {byte : ℕ} {n : MarksNumbers} → SteppedAlong list classes before w after
      → Steps list classes byte after later n → n.refusal ≡ 0
      → SteppedAlong list classes before (w ++ (byte ∷ [])) later

-- a step from no marks makes none
no_marks_made : {list classes before after : List ℕ} {byte : ℕ} {n : MarksNumbers}
    (on : MovesOn list classes byte before after n)
    → AllZero (piece_count on.made.t) before → AllZero (piece_count on.made.t) after
no_marks_made {before = before} {after = after} on zeros =
    let s = on.made.t in
    let x = cut_up s in
    let enough = on.made.enough in
    let all : AllZero (1 + run x) before = rw (all_words s) zeros in
    let hold = on.made.hold in
    rw (all_words s) at (zero_alike x after before hold.clean on.from_marks.clean
    (λ q has held. let (p, (from, (r, there, is, marked), reads), path) = (hold.marks q has).0 held in
    zero_holds x before all r there marked)
    (omega (arith, all_words s, enough, hold.same_length)) (omega (arith, all_words s, enough)) all)

-- a refusal has a number
pub numbered : {A : Type 0} {number : ℕ} {why : Type 0} {before after : List ℕ} {n : MarksNumbers}
    → RefusedUnchanged (suc number) why before after n → n.refusal ≡ 0 → A
numbered a none = absurd (omega (arith, ap (λ (m : MarksNumbers). m.refusal) a.refuses))

module _ {list classes : List ℕ} {t : Tree Leaf} (good : Good list t) where
  -- words that are 0 stay 0 on every byte
  pub zero_stays : {before after : List ℕ} {byte : ℕ} {n : MarksNumbers} → Steps list classes byte before after n
      → n.refusal ≡ 0 → AllZero (piece_count t) before → AllZero (piece_count t) after
  zero_stays (step_not_good a) none zeros = numbered a none
  zero_stays (step_too_few_classes a) none zeros = numbered a none
  zero_stays (step_too_few a) none zeros = numbered a none
  zero_stays (step_not_marks a) none zeros = numbered a none
  zero_stays {before} {after} (stepped on) none zeros =
      let same = good_unique list t on.made.t good on.made.good in
      subst (λ (s : Tree Leaf). AllZero (piece_count s) after) (sym same)
      (no_marks_made on (subst (λ (s : Tree Leaf). AllZero (piece_count s) before) same zeros))

  -- and on every text
  pub zero_stays_on : {before w after : List ℕ} → SteppedAlong list classes before w after
      → AllZero (piece_count t) before → AllZero (piece_count t) after
  zero_stays_on none_yet zeros = zeros
  zero_stays_on (one_further on step none) zeros = zero_stays step none (zero_stays_on on zeros)

-- where the last call of a chain says that nothing is left, no text that begins with its bytes is in the language
pub nothing_follows : {classes : List ℕ} {t : Tree Leaf} {w before after : List ℕ} {n : MarksNumbers}
    → Follows classes t w before after n → n.nothing ≡ true → (v : List ℕ) → Matches classes t (w ++ v) → ⊥
nothing_follows follows says = nothing_left follows.holding (follows.left.0 says)
