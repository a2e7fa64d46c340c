-- One more operand makes a larger catenation, and one more branch a larger union; a fault in it is theirs; and where
-- none is due the whole was read.
use Rattle.std.specs.Prelude.{ℕ, ◌≤◌, ◌≡◌, Bool, true, false, List, length}
use Rattle.std.proofs.Common.{arith, sym, ◌∙◌}
use Rattle.tree.specs.Saying.{true_false}
use Rattle.operands.specs.Bytes.{Syntax}
use Rattle.operands.specs.Grammar.{starred, joined, united}
use Rattle.operands.specs.Stopping.{Stops, begins_next}
use Rattle.operands.specs.Surroundings.{Fails, fails_joined, fails_factor, fails_united, fails_branch}
use Rattle.operands.specs.Reading.{Whole}
use Rattle.operands.specs.ReadingLaws.{went_joined, went_united, went_branch}
use Rattle.operands.proofs.ReadingLaws.{went_factor}
use Rattle.scanner.specs.Rounds.{
  Round,
  no_part,
  some_parts,
  OperandDue,
  first_operand,
  next_operand,
  no_operand,
  BranchDue,
  first_branch,
  next_branch,
  no_branch,
  BranchBegins,
  begins_first,
  begins_after,
  Joins,
  joins_none,
  joins_one,
  SignFollows,
  may_follow,
  none_follows,
}

-- an answer is not yes and no
not_both : {b : Bool} → b ≡ true → b ≡ false → ⊥
not_both so not_so = true_false (sym so ∙ not_so)

-- where the branch that is due begins
pub begin_within : {bytes : List ℕ} {at place : ℕ} {due : Bool} {begin : ℕ} → BranchDue bytes at place due
    → due ≡ true → BranchBegins at place begin → at ≤ place → place ≤ length bytes
    → (at ≤ begin) × (begin ≤ length bytes)
begin_within d taken (begins_first a b) low high = (omega arith, omega arith)
begin_within (next_branch y h bar) taken (begins_after f b) low high = (omega arith, omega arith)
begin_within (first_branch y a) taken (begins_after f b) low high = absurd (f a)
begin_within (no_branch left f stops) taken (begins_after _ b) low high = absurd (not_both taken left)

-- it is no further back than the place
pub begin_after : {at place begin : ℕ} → BranchBegins at place begin → place ≤ begin
begin_after (begins_first a b) = omega arith
begin_after (begins_after f b) = omega arith

-- an operand stops where no sign follows
pub no_sign_stops : {bytes : List ℕ} {place : ℕ} {follows : Bool} (syntax : Syntax) → SignFollows bytes place follows
    → follows ≡ false → Stops syntax starred bytes place
no_sign_stops syntax (none_follows left stops) e = stops syntax
no_sign_stops syntax (may_follow taken h) left = absurd (not_both taken left)

module _ {syntax : Syntax} {places : Bool} {bytes : List ℕ} {depth at count : ℕ} {earlier : List ℕ} {place n : ℕ}
    {middle : List ℕ} {due : Bool} where
  module _ {next sum : ℕ} {last : List ℕ} {total : ℕ} {later : List ℕ} where
    -- one more operand was read and joined
    pub operand_more : Round syntax places joined starred bytes depth at count earlier place n middle
        → OperandDue bytes at place due → due ≡ true
        → Whole syntax places starred bytes depth place n middle next sum last
        → Joins places 2 at place sum last total later
        → Round syntax places joined starred bytes depth at count earlier next total later
    operand_more (no_part a b e) d taken r (joins_none f g h) =
        let first = rw a at (rw b at (rw e at r)) in
        rw g (rw h (some_parts (went_joined first.went) first.stops))
    operand_more (no_part a b e) d taken r (joins_one f p) = absurd (f a)
    operand_more (some_parts w s) d taken r (joins_none f g h) = absurd (omega (arith, w.further, f))
    operand_more (some_parts w s) (first_operand y a) taken r (joins_one f p) = absurd (f a)
    operand_more (some_parts w s) (next_operand y h no-bar no-closing) taken r (joins_one f p) =
        some_parts (went_factor w h (begins_next syntax bytes place h no-bar no-closing s) r p) r.stops
    operand_more (some_parts w s) (no_operand left f stops) taken r (joins_one _ p) = absurd (not_both taken left)

  -- a fault in the operand that is due is one of the catenation
  pub operand_fails : {number fault : ℕ}
      → Round syntax places joined starred bytes depth at count earlier place n middle
      → OperandDue bytes at place due → due ≡ true
      → Fails syntax starred bytes depth place number fault → Fails syntax joined bytes depth at number fault
  operand_fails (no_part a b e) d taken f = fails_joined syntax bytes (rw a at f)
  operand_fails (some_parts w s) (first_operand y a) taken f = absurd (omega (arith, w.further, a))
  operand_fails (some_parts w s) (next_operand y h no-bar no-closing) taken f =
      fails_factor syntax bytes place w.leads h (begins_next syntax bytes place h no-bar no-closing s) f
  operand_fails (some_parts w s) (no_operand left _ stops) taken f = absurd (not_both taken left)

  -- no operand is due: the catenation was read
  pub all_operands : Round syntax places joined starred bytes depth at count earlier place n middle
      → OperandDue bytes at place due → due ≡ false
      → Whole syntax places joined bytes depth at count earlier place n middle
  all_operands (some_parts w s) (no_operand y f stops) left = record { went = w; stops = stops syntax }
  all_operands (no_part a b e) (no_operand y f stops) left = absurd (f a)
  all_operands r (first_operand taken a) left = absurd (not_both taken left)
  all_operands r (next_operand taken h no-bar no-closing) left = absurd (not_both taken left)

  module _ {begin next sum : ℕ} {last : List ℕ} {total : ℕ} {later : List ℕ} where
    -- one more branch was read and joined
    pub branch_more : Round syntax places united joined bytes depth at count earlier place n middle
        → BranchDue bytes at place due → due ≡ true → BranchBegins at place begin
        → Whole syntax places joined bytes depth begin n middle next sum last
        → Joins places 3 at place sum last total later
        → Round syntax places united joined bytes depth at count earlier next total later
    branch_more (no_part a b e) d taken (begins_first f i) r (joins_none j g h) =
        let first = rw i at (rw b at (rw e at r)) in
        rw g (rw h (some_parts (went_united first.went) first.stops))
    branch_more (no_part a b e) d taken (begins_after f i) r j = absurd (f a)
    branch_more (no_part a b e) d taken (begins_first f i) r (joins_one j p) = absurd (j a)
    branch_more (some_parts w s) d taken (begins_first f i) r j = absurd (omega (arith, w.further, f))
    branch_more (some_parts w s) d taken (begins_after f i) r (joins_none j g h) = absurd (f j)
    branch_more (some_parts w s) (next_branch y h bar) taken (begins_after f i) r (joins_one j p) =
        let branch = rw i at r in some_parts (went_branch w h bar branch p) branch.stops
    branch_more (some_parts w s) (first_branch y a) taken (begins_after f i) r (joins_one j p) = absurd (f a)
    branch_more (some_parts w s) (no_branch left f stops) taken (begins_after _ i) r (joins_one j p) =
        absurd (not_both taken left)

  -- a fault in the branch that is due is one of the union
  pub branch_fails : {begin number fault : ℕ}
      → Round syntax places united joined bytes depth at count earlier place n middle
      → BranchDue bytes at place due → due ≡ true → BranchBegins at place begin
      → Fails syntax joined bytes depth begin number fault → Fails syntax united bytes depth at number fault
  branch_fails r d taken (begins_first a i) f = fails_united syntax bytes (rw i at f)
  branch_fails (no_part a b e) d taken (begins_after f i) g = absurd (f a)
  branch_fails (some_parts w s) (next_branch y h bar) taken (begins_after f i) g =
      fails_branch syntax bytes place w.leads h bar (rw i at g)
  branch_fails (some_parts w s) (first_branch y a) taken (begins_after f i) g = absurd (f a)
  branch_fails (some_parts w s) (no_branch left f stops) taken (begins_after _ i) g = absurd (not_both taken left)

  -- no branch is due: the union was read
  pub all_branches : Round syntax places united joined bytes depth at count earlier place n middle
      → BranchDue bytes at place due → due ≡ false
      → Whole syntax places united bytes depth at count earlier place n middle
  all_branches (some_parts w s) (no_branch y f stops) left = record { went = w; stops = stops syntax s }
  all_branches (no_part a b e) (no_branch y f stops) left = absurd (f a)
  all_branches r (first_branch taken a) left = absurd (not_both taken left)
  all_branches r (next_branch taken h bar) left = absurd (not_both taken left)
