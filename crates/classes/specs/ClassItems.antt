-- What the readers of a class's items, and of a whole class, promise: the class that the reading finds, with its
-- values.
use Rattle.std.specs.Prelude.{ℕ, ◌+◌, ◌≤◌, ◌<◌, ◌≡◌, refl, Bool, true, false, List, [], ◌∷◌, Option, Some, None, length, drop, get_or, set}
use Rattle.std.proofs.Common.{get_or-set_same, get_or-set_other, length-set, ap, ◌∙◌, arith}
use Rattle.classes.specs.Class.{Item, from_to, Class, the_dot, unread, opened, item_due}
use Rattle.classes.specs.ClassRun.{ClassRan, found, failed}
use Rattle.classes.specs.ClassComplete.{class_of_items}
use Rattle.classes.specs.ClassReading.{
  class_run_from,
  ItemHere,
  count_fits,
  EndHere,
  NothingDue,
  unfit,
  no_item,
  items_fit_count,
  ends_whole,
  ends_faulty,
  opened_caret,
  opened_plainly,
  runs_out,
}
use Rattle.classes.specs.ClassAt.{run_at, class_at, ClassHere, dot_here, bracket_here}
use Rattle.classes.specs.Members.{Members, EveryValue, Put, item_value, filled_members, put_members, value_count}

-- a reading of a class finds one that ends at `next`, and these are its values
pub record ClassFound (bytes : List ℕ) (at next : ℕ) (ran : ClassRan) (members : List ℕ) : Type 0 where
  pub class : Class
  pub finds : ran ≡ found class (drop next bytes) next
  pub told : Members class members
  pub further : at < next
  pub within : next ≤ length bytes

-- it finds none
pub record ClassLost (ran : ClassRan) : Type 0 where
  pub fails : ran ≡ failed

-- what a reader of a class from `at` on answers, for the reading that it does
abbrev pub ClassAnswer : (bytes : List ℕ) (at : ℕ) → ClassRan → (members : List ℕ) → Option ℕ → Type 0
ClassAnswer bytes at ran members (Some next) = ClassFound bytes at next ran members
ClassAnswer bytes at ran members None = ClassLost ran

-- so many items were read from `at` up to `place`, and these are the values so far
pub record ItemsSoFar (bytes : List ℕ) (at : ℕ) (all_but : Bool) (place count : ℕ) (members : List ℕ) : Type 0 where
  pub items : List Item
  pub counted : length items ≡ count
  pub on : class_run_from bytes at (class_of_items all_but []) item_due
      ≡ class_run_from bytes place (class_of_items all_but items) item_due
  pub told : Members (class_of_items all_but items) members
  pub onward : at + count ≤ place
  pub within : place ≤ length bytes

module _ {bytes : List ℕ} {at : ℕ} {all_but : Bool} where
  -- none yet
  pub no_items : {members : List ℕ} → Members (class_of_items all_but []) members → at ≤ length bytes
      → ItemsSoFar bytes at all_but at 0 members
  no_items m h =
      record { items = []; counted = refl; on = refl; told = m; onward = omega arith; within = h }

  -- one more
  pub one_more_item : {place count first last next : ℕ} {before after : List ℕ}
      → ItemsSoFar bytes at all_but place count before → ItemHere bytes place first last next
      → length after ≡ length before → Put before after first (last + 1) (item_value all_but)
      → ItemsSoFar bytes at all_but next (count + 1) after
  one_more_item {first = first} {last = last} {before = before} {after = after} s item long put =
      record {
        items = from_to first last ∷ s.items;
        counted = omega (arith, s.counted);
        on = s.on ∙ item.on (class_of_items all_but s.items);
        told = put_members (class_of_items all_but s.items) before after first last s.told long put;
        onward = omega (arith, s.onward, item.further);
        within = item.within;
      }

  module _ {place count : ℕ} {members : List ℕ} (s : ItemsSoFar bytes at all_but place count members) where
    -- the `]` ends the class
    pub items_ended : EndHere bytes place count
        → ClassFound bytes at (place + 1) (class_run_from bytes at (class_of_items all_but []) item_due) members
    items_ended end =
        record {
          class = class_of_items all_but s.items;
          finds = s.on ∙ ends_whole bytes place end.inside (class_of_items all_but s.items) end.ending
              (items_fit_count s.items ∙ ap count_fits s.counted ∙ end.fits);
          told = s.told;
          further = omega (arith, s.onward);
          within = omega (arith, end.inside);
        }

    -- the `]` comes with no item before it, or more than 16, or no item follows
    pub items_broken : NothingDue bytes place count
        → ClassLost (class_run_from bytes at (class_of_items all_but []) item_due)
    items_broken (unfit h e fits) =
        record {
          fails = s.on ∙ ends_faulty bytes place h (class_of_items all_but s.items) e
              (items_fit_count s.items ∙ ap count_fits s.counted ∙ fits);
        }
    items_broken (no_item bad) = record { fails = s.on ∙ bad.fails (class_of_items all_but s.items) }

    -- with no item, or more than 16
    pub items_unfit : place < length bytes → get_or bytes place 0 ≡ 93 → count_fits count ≡ false
        → ClassLost (class_run_from bytes at (class_of_items all_but []) item_due)
    items_unfit h e fits =
        record {
          fails = s.on ∙ ends_faulty bytes place h (class_of_items all_but s.items) e
              (items_fit_count s.items ∙ ap count_fits s.counted ∙ fits);
        }

    -- the end comes
    pub items_cut : place ≡ length bytes → ClassLost (class_run_from bytes at (class_of_items all_but []) item_due)
    items_cut e = record { fails = s.on ∙ runs_out bytes place (class_of_items all_but s.items) item_due e }

-- the same without the values: items that are passed over, whether all but those are taken or not
pub record ClassEnded (bytes : List ℕ) (at next : ℕ) (ran : ClassRan) : Type 0 where
  pub class : Class
  pub finds : ran ≡ found class (drop next bytes) next
  pub further : at < next
  pub within : next ≤ length bytes

-- what passing over a class answers, for the reading that it does
abbrev pub EndAnswer : (bytes : List ℕ) (at : ℕ) → ClassRan → Option ℕ → Type 0
EndAnswer bytes at ran (Some next) = ClassEnded bytes at next ran
EndAnswer bytes at ran None = ClassLost ran

-- for both senses of the items
pub record ItemsEnded (bytes : List ℕ) (at next : ℕ) : Type 0 where
  pub both : (all_but : Bool) → ClassEnded bytes at next (class_run_from bytes at (class_of_items all_but []) item_due)

pub record ItemsLost (bytes : List ℕ) (at : ℕ) : Type 0 where
  pub both : (all_but : Bool) → ClassLost (class_run_from bytes at (class_of_items all_but []) item_due)

abbrev pub ItemsEndAnswer : (bytes : List ℕ) (at : ℕ) → Option ℕ → Type 0
ItemsEndAnswer bytes at (Some next) = ItemsEnded bytes at next
ItemsEndAnswer bytes at None = ItemsLost bytes at

-- what passing over the class at a `[` answers
abbrev pub ClassEndAnswer : (bytes : List ℕ) (at : ℕ) → Option ℕ → Type 0
ClassEndAnswer bytes at r = EndAnswer bytes at (run_at bytes at) r

-- so many items were passed from `at` up to `place`
pub record ItemsPassed (bytes : List ℕ) (at place count : ℕ) : Type 0 where
  pub items : List Item
  pub counted : length items ≡ count
  pub on : (all_but : Bool) → class_run_from bytes at (class_of_items all_but []) item_due
      ≡ class_run_from bytes place (class_of_items all_but items) item_due
  pub onward : at + count ≤ place
  pub within : place ≤ length bytes

pub none_passed : {bytes : List ℕ} {at : ℕ} → at ≤ length bytes → ItemsPassed bytes at at 0
none_passed h =
    record { items = []; counted = refl; on = λ all_but. refl; onward = omega arith; within = h }

pub one_more_passed : {bytes : List ℕ} {at place count first last next : ℕ} → ItemsPassed bytes at place count
    → ItemHere bytes place first last next → ItemsPassed bytes at next (count + 1)
one_more_passed {first = begin} {last = end} s item =
    record {
      items = from_to begin end ∷ s.items;
      counted = omega (arith, s.counted);
      on = λ all_but. s.on all_but ∙ item.on (class_of_items all_but s.items);
      onward = omega (arith, s.onward, item.further);
      within = item.within;
    }

module _ {bytes : List ℕ} {at place count : ℕ} (s : ItemsPassed bytes at place count) where
  pub passed_ended : EndHere bytes place count → ItemsEnded bytes at (place + 1)
  passed_ended end =
      record {
        both = λ all_but. record {
          class = class_of_items all_but s.items;
          finds = s.on all_but ∙ ends_whole bytes place end.inside (class_of_items all_but s.items) end.ending
              (items_fit_count s.items ∙ ap count_fits s.counted ∙ end.fits);
          further = omega (arith, s.onward);
          within = omega (arith, end.inside);
        };
      }

  pub passed_broken : NothingDue bytes place count → ItemsLost bytes at
  passed_broken (unfit h e fits) =
      record {
        both = λ all_but. record {
          fails = s.on all_but ∙ ends_faulty bytes place h (class_of_items all_but s.items) e
              (items_fit_count s.items ∙ ap count_fits s.counted ∙ fits);
        };
      }
  passed_broken (no_item bad) =
      record { both = λ all_but. record { fails = s.on all_but ∙ bad.fails (class_of_items all_but s.items) } }

  pub passed_unfit : place < length bytes → get_or bytes place 0 ≡ 93 → count_fits count ≡ false → ItemsLost bytes at
  passed_unfit h e fits =
      record {
        both = λ all_but. record {
          fails = s.on all_but ∙ ends_faulty bytes place h (class_of_items all_but s.items) e
              (items_fit_count s.items ∙ ap count_fits s.counted ∙ fits);
        };
      }

  pub passed_cut : place ≡ length bytes → ItemsLost bytes at
  passed_cut e =
      record {
        both = λ all_but. record {
          fails = s.on all_but ∙ runs_out bytes place (class_of_items all_but s.items) item_due e;
        };
      }

-- the reading from after a `[` is that of the items
from_bracket : (bytes : List ℕ) (at : ℕ) → run_at bytes at ≡ class_run_from bytes (at + 1) unread opened
unfolding run_at class_run_from
from_bracket bytes at = refl

-- an answer about one reading is one about another that is the same
class_answer_of : (bytes : List ℕ) (at at' : ℕ) (ran ran' : ClassRan) (members : List ℕ) (r : Option ℕ) → ran' ≡ ran
    → at' ≤ at → ClassAnswer bytes at ran members r → ClassAnswer bytes at' ran' members r
class_answer_of bytes at at' ran ran' members (Some next) e h a =
    record {
      class = a.class;
      finds = e ∙ a.finds;
      told = a.told;
      further = omega (arith, a.further);
      within = a.within;
    }
class_answer_of bytes at at' ran ran' members None e h a = record { fails = e ∙ a.fails }

module _ (bytes : List ℕ) (at : ℕ) (members : List ℕ) (r : Option ℕ) where
  -- a class with a `^`
  pub class_but : at + 1 < length bytes → get_or bytes (at + 1) 0 ≡ 94
      → ClassAnswer bytes (at + 2) (class_run_from bytes (at + 2) (class_of_items true []) item_due) members r
      → ClassAnswer bytes at (run_at bytes at) members r
  class_but h e a =
      let further : at + 1 + 1 ≡ at + 2 = omega arith in
      class_answer_of bytes (at + 2) at _ (run_at bytes at) members r
      (from_bracket bytes at ∙ opened_caret bytes (at + 1) h unread e
      ∙ ap (λ (n : ℕ). class_run_from bytes n (class_of_items true []) item_due) further) (omega arith) a

  -- a class with none
  pub class_only : at + 1 ≤ length bytes → ((at + 1 < length bytes) × (get_or bytes (at + 1) 0 ≡ 94) → ⊥)
      → ClassAnswer bytes (at + 1) (class_run_from bytes (at + 1) (class_of_items false []) item_due) members r
      → ClassAnswer bytes at (run_at bytes at) members r
  class_only h no-caret a =
      class_answer_of bytes (at + 1) at _ (run_at bytes at) members r
      (from_bracket bytes at ∙ opened_plainly bytes (at + 1) unread h no-caret) (omega arith) a

-- passing over the items passes over the class
end_answer_of : (bytes : List ℕ) (at at' : ℕ) (all_but : Bool) (ran' : ClassRan) (r : Option ℕ)
    → ran' ≡ class_run_from bytes at (class_of_items all_but []) item_due → at' ≤ at → ItemsEndAnswer bytes at r
    → EndAnswer bytes at' ran' r
end_answer_of bytes at at' all_but ran' (Some next) e h a =
    let b = a.both all_but in
    record { class = b.class; finds = e ∙ b.finds; further = omega (arith, b.further); within = b.within }
end_answer_of bytes at at' all_but ran' None e h a = record { fails = e ∙ (a.both all_but).fails }

module _ (bytes : List ℕ) (at : ℕ) (r : Option ℕ) where
  pub end_but : at + 1 < length bytes → get_or bytes (at + 1) 0 ≡ 94 → ItemsEndAnswer bytes (at + 2) r
      → ClassEndAnswer bytes at r
  end_but h e a =
      let further : at + 1 + 1 ≡ at + 2 = omega arith in
      end_answer_of bytes (at + 2) at true (run_at bytes at) r
      (from_bracket bytes at ∙ opened_caret bytes (at + 1) h unread e
      ∙ ap (λ (n : ℕ). class_run_from bytes n (class_of_items true []) item_due) further) (omega arith) a

  pub end_only : at + 1 ≤ length bytes → ((at + 1 < length bytes) × (get_or bytes (at + 1) 0 ≡ 94) → ⊥)
      → ItemsEndAnswer bytes (at + 1) r → ClassEndAnswer bytes at r
  end_only h no-caret a =
      end_answer_of bytes (at + 1) at false (run_at bytes at) r
      (from_bracket bytes at ∙ opened_plainly bytes (at + 1) unread h no-caret) (omega arith) a

-- the class at a place is a dot, or the one found
pub dot_at : (bytes : List ℕ) (at : ℕ) → get_or bytes at 0 ≡ 46 → class_at bytes at ≡ the_dot
unfolding class_at
dot_at bytes at e = rw e

pub found_at : (bytes : List ℕ) (at : ℕ) (class : Class) (rest : List ℕ) (next : ℕ) → get_or bytes at 0 ≡ 91
    → run_at bytes at ≡ found class rest next → class_at bytes at ≡ class
unfolding class_at
found_at bytes at class rest next e f = rw (e, f)

-- no class is found where none is lost
lost_none : {class : Class} {rest : List ℕ} {next : ℕ} {A : Type 0} (ran : ClassRan) → ran ≡ failed
    → ran ≡ found class rest next → A
lost_none ran e f = let z : ◌≡◌ {A = ℕ} 0 1 = cc in absurd (omega arith)

-- where a `[` with a class stands, the values told are those of the class at that place
pub members_at : (bytes : List ℕ) (at : ℕ) (members : List ℕ) (r : Option ℕ) → ClassHere bytes at
    → (get_or bytes at 0 ≡ 46 → ⊥) → ClassAnswer bytes at (run_at bytes at) members r
    → Members (class_at bytes at) members
members_at bytes at members r (dot_here h e) no-dot a = absurd (no-dot e)
members_at bytes at members (Some next) (bracket_here h e f) no-dot a =
    rw (found_at bytes at a.class _ next e a.finds) a.told
members_at bytes at members None (bracket_here h e f) no-dot a = lost_none (run_at bytes at) a.fails f

pub inside_at : (bytes : List ℕ) (at : ℕ) → ClassHere bytes at → at < length bytes
inside_at bytes at (dot_here h e) = h
inside_at bytes at (bracket_here h e f) = h

-- the values of the dot
pub dot_members : (filled after : List ℕ) → length filled ≡ value_count → EveryValue filled 1
    → length after ≡ length filled → Put filled after 10 11 0 → Members the_dot after
dot_members filled after long f same put =
    put_members (class_of_items true []) filled after 10 10 (filled_members true filled long f) same put

-- the same where all are taken, and then 10 is not
pub dot_members_set : (filled : List ℕ) → length filled ≡ value_count → EveryValue filled 1
    → Members the_dot (set filled 10 0)
dot_members_set filled long f =
    dot_members filled (set filled 10 0) long f (length-set filled 10 0)
    (record {
      inside = λ v l k.
          let here : v ≡ 10 = omega arith in rw here (get_or-set_same filled 10 0 0 (omega (arith, long)));
      below = λ v l. get_or-set_other filled 10 v 0 0 (λ e. omega arith);
      above = λ v l. get_or-set_other filled 10 v 0 0 (λ e. omega arith);
    })
