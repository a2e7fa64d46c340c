-- How a reading goes on: one more sign, operand or branch makes a larger tree, and the labels are those of what it
-- stands for.
use Rattle.std.specs.Prelude.{ℕ, ◌+◌, ◌<◌, ◌≤◌, ◌≡◌, Bool, List, [], ◌∷◌, length, get_or, Result, Ok, Err}
use Rattle.std.proofs.Common.{arith}
use Rattle.language.specs.SignedTree.{leaf, union, star, one_or_more, optional, counted}
use Rattle.language.specs.PlacedStandsFor.{placed_repeated, placed_perhaps, placed_times}
use Rattle.tree.specs.Limits.{most_groups, slot_count}
use Rattle.tree.specs.Leaf.{Leaf}
use Rattle.tree.specs.Records.{leaf_label}
use Rattle.repeats.specs.Noted.{note}
use Rattle.repeats.specs.Labelled.{Appended, Relabels, RelabelsFrom}
use Rattle.repeats.specs.LabelledLaws.{labelled_leaf, labelled_star, labelled_union}
use Rattle.counts.specs.CountReading.{CountHere}
use Rattle.counts.specs.CountRun.{count_at}
use Rattle.operands.specs.Bytes.{Syntax, second}
use Rattle.operands.specs.LeavesPlaced.{signs_at, LeafPlaced}
use Rattle.operands.specs.Grammar.{starred, joined, united}
use Rattle.operands.specs.Stopping.{closes_united}
use Rattle.operands.specs.Surroundings.{Leads, leads_star, leads_more, leads_optional, leads_counted, leads_group, leads_joined, leads_united, leads_branch}
use Rattle.operands.specs.Reading.{ReadUpTo, whole_tree, Whole, PartAnswer, CharacterAnswer, LeafAnswer, SignsAnswer}
use Rattle.tree.specs.declared.refusal.Refused.{Refused}

-- a leaf was read, and its label is the last one
pub leaf_read : {syntax : Syntax} (places : Bool) {bytes : List ℕ} {at count total : ℕ} (earlier later : List ℕ)
    (answer next : ℕ)
    {label : ℕ} (a : Leaf) → LeafPlaced bytes a
    → ((depth : ℕ) → Leads syntax starred bytes depth at (signs_at bytes (leaf at a)) next) → at < next
    → next ≤ length bytes → count ≤ slot_count → label ≡ leaf_label a
    → LeafAnswer places label at next count earlier total later answer
    → CharacterAnswer syntax places bytes at count earlier total later (Ok answer)
leaf_read places {at = at} earlier later answer next a placed leads further within few labels-it (same, p) =
    rw same
    (record {
      went = λ depth. record {
        read = leaf at a;
        leads = leads depth;
        placed = placed;
        labelled = labelled_leaf at a (rw labels-it at p);
        further = further;
        within = within;
        grown = omega (arith, p.counted);
        few = omega (arith, p.counted);
      };
    })

module _ {places : Bool} {bytes : List ℕ} {depth at first : ℕ} {start : List ℕ} {place count total : ℕ}
    {earlier later : List ℕ} where
  -- what was read, with a star
  pub went_star : {syntax : Syntax} → ReadUpTo syntax places starred bytes depth at first start place count earlier
      → place < length bytes → get_or bytes place 0 ≡ 42 → Appended earlier count (note places 4 place ∷ []) total later
      → ReadUpTo syntax places starred bytes depth at first start (place + 1) total later
  went_star {syntax} w h e p =
      let l = labelled_star place w.labelled p in
      record {
        read = star place w.read;
        leads = leads_star syntax bytes place w.leads h e;
        placed = w.placed;
        labelled = l;
        further = omega (arith, w.further);
        within = omega arith;
        grown = omega (arith, p.counted, w.grown, w.few);
        few = omega (arith, p.counted);
      }

  module _ (w : ReadUpTo second places starred bytes depth at first start place count earlier)
      (h : place < length bytes)
    where
      -- one or more of it
      pub went_more : get_or bytes place 0 ≡ 43 → RelabelsFrom places first count earlier (placed_repeated place)
          total later
          → ReadUpTo second places starred bytes depth at first start (place + 1) total later
      went_more e r =
          let l = r.on (whole_tree w.read) start w.labelled in
          record {
            read = one_or_more place w.read;
            leads = leads_more place w.leads h e;
            placed = w.placed;
            labelled = l;
            further = omega (arith, w.further);
            within = omega arith;
            grown = omega (arith, l.counted, w.grown, w.few);
            few = omega (arith, l.counted);
          }

      -- none or one of it
      pub went_optional : get_or bytes place 0 ≡ 63 → Relabels places count earlier (placed_perhaps Leaf.empty_text place)
          total later
          → ReadUpTo second places starred bytes depth at first start (place + 1) total later
      went_optional e r =
          let l = r.on (whole_tree w.read) first start w.labelled in
          record {
            read = optional place w.read;
            leads = leads_optional place w.leads h e;
            placed = w.placed;
            labelled = l;
            further = omega (arith, w.further);
            within = omega arith;
            grown = omega (arith, l.counted, w.grown, w.few);
            few = omega (arith, l.counted);
          }

      -- a count of it
      pub went_counted : {fewest most next : ℕ} → get_or bytes place 0 ≡ 123
          → CountHere bytes place (count_at bytes place) next fewest most
          → RelabelsFrom places first count earlier (placed_times Leaf.empty_text place fewest most) total later
          → ReadUpTo second places starred bytes depth at first start next total later
      went_counted {fewest} {most} e c r =
          let l = r.on (whole_tree w.read) start w.labelled in
          record {
            read = counted place fewest most w.read;
            leads = leads_counted place w.leads h e c.finds;
            placed = w.placed;
            labelled = l;
            further = omega (arith, w.further, c.further);
            within = c.within;
            grown = omega (arith, l.counted, w.grown, w.few);
            few = omega (arith, l.counted);
          }

module _ {syntax : Syntax} {places : Bool} {bytes : List ℕ} {depth at count : ℕ} {earlier : List ℕ} where
  -- a closed group
  pub went_group : {next total : ℕ} {later : List ℕ}
      → Whole syntax places united bytes (depth + 1) (at + 1) count earlier next total later → next < length bytes
      → depth < most_groups
      → at < length bytes → get_or bytes at 0 ≡ 40 → ReadUpTo syntax places starred bytes depth at count earlier
      (next + 1) total later
  went_group {next = next} r inside few h e =
      record {
        read = r.went.read;
        leads = leads_group syntax bytes at next r.went.leads inside (closes_united syntax bytes next
            r.stops inside) few h e;
        placed = r.went.placed;
        labelled = r.went.labelled;
        further = omega (arith, r.went.further);
        within = omega arith;
        grown = r.went.grown;
        few = r.went.few;
      }

  -- an operand is read when its signs are
  pub then_signs : {next n : ℕ} {middle : List ℕ} (total : ℕ) (later : List ℕ) (answer : Result ℕ Refused)
      → ReadUpTo syntax places starred bytes depth at count earlier next n middle
      → SignsAnswer syntax places bytes count next n middle total later answer
      → PartAnswer syntax places starred bytes at depth count earlier total later answer
  then_signs total later (Ok next) w s = record { went = (s.carries depth).on at earlier w; stops = s.stops }
  then_signs total later (Err fault) w s = s.fails depth at earlier w

  -- an operand is a catenation, and a catenation a union
  pub went_joined : {next total : ℕ} {later : List ℕ}
      → ReadUpTo syntax places starred bytes depth at count earlier next total later
      → ReadUpTo syntax places joined bytes depth at count earlier next total later
  went_joined w = record {
    read = w.read;
    leads = leads_joined syntax bytes w.leads;
    placed = w.placed;
    labelled = w.labelled;
    further = w.further;
    within = w.within;
    grown = w.grown;
    few = w.few;
  }

  pub went_united : {next total : ℕ} {later : List ℕ}
      → ReadUpTo syntax places joined bytes depth at count earlier next total later
      → ReadUpTo syntax places united bytes depth at count earlier next total later
  went_united w = record {
    read = w.read;
    leads = leads_united syntax bytes w.leads;
    placed = w.placed;
    labelled = w.labelled;
    further = w.further;
    within = w.within;
    grown = w.grown;
    few = w.few;
  }

  module _ {place n : ℕ} {middle : List ℕ} {next sum : ℕ} {last : List ℕ} {total : ℕ} {later : List ℕ} where
    -- a union with one more branch
    pub went_branch : ReadUpTo syntax places united bytes depth at count earlier place n middle → place < length bytes
        → get_or bytes place 0 ≡ 124 → Whole syntax places joined bytes depth (place + 1) n middle next sum last
        → Appended last sum (note places 3 place ∷ []) total later → ReadUpTo syntax places united bytes depth at
        count earlier next
        total later
    went_branch w h e r p =
        record {
          read = union place w.read r.went.read;
          leads = leads_branch syntax bytes place w.leads h e r.went.leads r.stops;
          placed = (w.placed, r.went.placed);
          labelled = labelled_union place w.labelled r.went.labelled p;
          further = omega (arith, w.further, r.went.further);
          within = r.went.within;
          grown = omega (arith, p.counted, w.grown, r.went.grown, r.went.few);
          few = omega (arith, p.counted);
        }
