-- A caller's chain: `foam_start`, then `foam_step` for each byte of a text, each from the words that the call before
-- left. By a good list, with class records and words enough, no call is refused, and the flag says whether the text is
-- in the language.
use Rattle.std.specs.Prelude.{ℕ, ◌+◌, ◌≤◌, ◌≡◌, refl, Bool, true, false, cond, ◌↔◌, List, [], ◌∷◌, ◌++◌, length}
use Rattle.std.proofs.Common.{arith, ap, ◌∙◌}
use Rattle.std.proofs.lemmas.Bool.{false≢true}
use Rattle.std.proofs.Math.Logic.Iff
use Rattle.language.specs.Tree.{Tree}
use Rattle.tree.specs.Leaf.{Leaf, Matches}
use Rattle.tree.specs.Records.{Good, piece_count}
use Rattle.marks.specs.declared.numbers.MarksNumbers.{MarksNumbers}
use Rattle.marks.specs.Promise.{Classed}
use Rattle.marks.specs.Chain.{Chain, begun, further}
use Rattle.marks.specs.ChainFollows.{chain_follows}
use Rattle.marks.specs.NothingLeft.{nothing_follows}
use Rattle.one_number.specs.Packed.{x_in, number_in, flag_in, Unpacks}
use Rattle.foamlattice.specs.Promise.{Starting, Stepping}
use Rattle.foamlattice.specs.PackedBounds.{starting_unpacks, stepping_unpacks}

-- from the words `before`, over the bytes of w: the last call answered r and left the words `after`
pub data Calls (list classes before : List ℕ) : (w after : List ℕ) → ℕ → Type 0 where
  call_start : {after : List ℕ} {r : ℕ} → Starting list classes before after r → Calls list classes before [] after r
  call_step : {w after later : List ℕ} {r s byte : ℕ} → Calls list classes before w after r
      → Stepping list classes byte after later s → Calls list classes before (w ++ (byte ∷ [])) later s

-- the numbers that the last call packed
record Last (list classes before w after : List ℕ) (r : ℕ) : Type 0 where
  pub numbers : MarksNumbers
  pub chain : Chain list classes before w after numbers
  pub unpacked : Unpacks r numbers.refusal (cond numbers.accepting 1 0)
      (numbers.place + cond numbers.nothing 1 0) 0

last_call : {list classes before w after : List ℕ} {r : ℕ} → Calls list classes before w after r
    → Last list classes before w after r
last_call {list} {classes} {before} {r = r} (call_start {after = after} s) =
    record { numbers = s.numbers; chain = begun s.right; unpacked = starting_unpacks list classes before after r s }
last_call {list} {classes} {r = r} (call_step {after = after} {later = later} {byte = byte} calls s) =
    record {
      numbers = s.numbers;
      chain = further (last_call calls).chain s.right;
      unpacked = stepping_unpacks list classes byte after later r s;
    }

-- a flag is 1 exactly where it is set
flag_set : (flag : Bool) → (◌≡◌ {A = ℕ} (cond flag 1 0) 1) ↔ (flag ≡ true)
flag_set true = (λ e. refl, λ e. refl)
flag_set false = (λ e. absurd (omega arith), λ e. absurd (false≢true e))

-- no call was refused, the last one's flag says whether the bytes so far are in the language, and where its x is 1 no
-- text that begins with them is
pub record SaysOf (classes : List ℕ) (t : Tree Leaf) (w : List ℕ) (r : ℕ) : Type 0 where
  pub not_refused : number_in r ≡ 0
  pub flag : (flag_in r ≡ 1) ↔ Matches classes t w
  pub stops : x_in r ≡ 1 → (v : List ℕ) → Matches classes t (w ++ v) → ⊥

pub calls_follow : {list classes before w after : List ℕ} {r : ℕ} (t : Tree Leaf) → Good list t → Classed classes t
    → piece_count t ≤ length before → Calls list classes before w after r → SaysOf classes t w r
calls_follow {r = r} t good classed enough calls =
    let last = last_call calls in
    let follows = chain_follows good classed enough last.chain in
    record {
      not_refused = last.unpacked.number_back ∙ ap (λ (n : MarksNumbers). n.refusal) follows.marks;
      flag =
          Iff.trans (rw last.unpacked.flag_back (flag_set last.numbers.accepting)) follows.answer;
      stops = λ e. nothing_follows follows
          ((flag_set last.numbers.nothing).0
          (omega (arith, last.unpacked.x_back, ap (λ (n : MarksNumbers). n.place) follows.marks)));
    }
