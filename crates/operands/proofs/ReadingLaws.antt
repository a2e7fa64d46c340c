-- How a reading goes on: one more sign, operand or branch makes a larger tree, and the labels are those of what it
-- stands for.
use Rattle.std.specs.Prelude.{ℕ, ◌<◌, ◌≡◌, Bool, true, List, [], ◌∷◌, length, get_or}
use Rattle.std.proofs.Common.{arith}
use Rattle.language.specs.SignedTree.{catenation}
use Rattle.repeats.specs.Noted.{note}
use Rattle.repeats.specs.Labelled.{Appended}
use Rattle.repeats.specs.LabelledLaws.{labelled_catenation}
use Rattle.operands.specs.Bytes.{Syntax, sign_of}
use Rattle.operands.specs.Grammar.{starred, joined}
use Rattle.operands.specs.Stopping.{beginning}
use Rattle.operands.specs.Surroundings.{leads_factor}
use Rattle.operands.specs.Reading.{ReadUpTo, Whole}

module _ {syntax : Syntax} {places : Bool} {bytes : List ℕ} {depth at count : ℕ} {earlier : List ℕ} where
  module _ {place n : ℕ} {middle : List ℕ} {next sum : ℕ} {last : List ℕ} {total : ℕ} {later : List ℕ} where
    -- a catenation with one more operand
    pub went_factor : ReadUpTo syntax places joined bytes depth at count earlier place n middle → place < length bytes
        → beginning (sign_of syntax (get_or bytes place 0)) ≡ true
        → Whole syntax places starred bytes depth place n middle next sum last
        → Appended last sum (note places 2 place ∷ []) total later → ReadUpTo syntax places joined bytes depth at
        count earlier next
        total later
    went_factor w h more r p =
        record {
          read = catenation place w.read r.went.read;
          leads = leads_factor syntax bytes place w.leads h more r.went.leads r.stops;
          placed = (w.placed, r.went.placed);
          labelled = labelled_catenation place w.labelled r.went.labelled p;
          further = omega (arith, w.further, r.went.further);
          within = r.went.within;
          grown = omega (arith, p.counted, w.grown, r.went.grown, r.went.few);
          few = omega (arith, p.counted);
        }
