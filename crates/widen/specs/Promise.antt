-- What turning an old list into one of today promises: the records of its tree with the place 0, and past them what was
-- there; else the reason, and a buffer as it was.
use Rattle.std.specs.Prelude.{ℕ, ◌*◌, ◌≤◌, ◌<◌, ◌≡◌, List, Result, Ok, Err, ◌++◌, length, drop}
use Rattle.language.specs.Tree.{Tree, nodes}
use Rattle.tree.specs.Leaf.{Leaf}
use Rattle.tree.specs.Layout.{record_size}
use Rattle.tree.specs.Refusing.{refusal_number}
use Rattle.tree.specs.declared.refusal.Refusal.{Refusal}
use Rattle.tree.specs.declared.refusal.Refusal.TheVariants.{ListNotGood, BufferTooShort}
use Rattle.widen.specs.OldLayout.{widened, GoodOld}

-- the records are written
pub record WideWritten (old before after : List ℕ) (records : ℕ) : Type 0 where
  pub tree : Tree Leaf
  pub good : GoodOld old tree
  pub records_are : records ≡ nodes tree
  pub room : record_size * records ≤ length before
  pub stored : after ≡ widened old ++ drop (record_size * records) before

-- the old list is not good
pub record OldNotGood (old before after : List ℕ) : Type 0 where
  pub no_tree : (t : Tree Leaf) → GoodOld old t → ⊥
  pub kept : after ≡ before

-- it is, and the buffer is too short
pub record WideTooLong (old before after : List ℕ) : Type 0 where
  pub tree : Tree Leaf
  pub good : GoodOld old tree
  pub short : length before < record_size * nodes tree
  pub kept : after ≡ before

-- what a refusal says, and that there is no other
pub data RefusesToWiden (old before after : List ℕ) : Refusal → Type 0 where
  not_good : OldNotGood old before after → RefusesToWiden old before after ListNotGood
  too_long : WideTooLong old before after → RefusesToWiden old before after BufferTooShort

-- what an answer says
abbrev pub SaysWidened : (old before after : List ℕ) → Result ℕ Refusal → Type 0
SaysWidened old before after (Ok records) = WideWritten old before after records
SaysWidened old before after (Err refusal) = RefusesToWiden old before after refusal

-- the promise: the answer fits
pub record Widens (old before after : List ℕ) (answer : Result ℕ Refusal) : Type 0 where
  pub fits : SaysWidened old before after answer

-- the number of the refusal, 0 for none
abbrev pub widen_refusal : Result ℕ Refusal → ℕ
widen_refusal (Ok records) = 0
widen_refusal (Err refusal) = refusal_number refusal
