-- What the making of a table promises leaves no choice: the numbers, every entry of the table and every word of the
-- room are determined.
use Rattle.std.specs.Prelude.{ℕ, ◌≡◌, refl, List, Option, Some, None}
use Rattle.std.proofs.Common.{arith, sym, ap, ◌∙◌, subst}
use Rattle.language.specs.Tree.{Tree}
use Rattle.tree.specs.Leaf.{Leaf}
use Rattle.lists.specs.Readback.{good_unique}
use Rattle.tabulating.specs.Tabulates.{table_made, does_not_fit}
use Rattle.tabulating.specs.declared.Made.{Made}
use Rattle.tabulating.specs.TabulatesLaws.{OneResult, tabulates_once}
use Rattle.making.specs.Answer.{not_made, making}
use Rattle.making.specs.Promise.{
  RefusesMaking,
  not_good,
  too_few_classes,
  OfGoodClassed,
  Makes,
  refused,
  table_made as made,
  does_not_fit as unfit,
}
use Rattle.making.specs.declared.numbers.MadeNumbers.{MadeNumbers}

-- the numbers of an answer for the tree
abbrev numbers_for : Option Made → MadeNumbers
numbers_for (Some it) = making it.states it.entries
numbers_for None = not_made 0

-- a table of so many states and entries
abbrev made_of : (states entries : ℕ) → Option Made
made_of states entries = Some (record { states = states; entries = entries })

-- the same numbers, table and room
pub record SameMaking (m n : MadeNumbers) (a b c d : List ℕ) : Type 0 where
  pub same_numbers : m ≡ n
  pub same_table : a ≡ b
  pub same_room : c ≡ d

module _ {list classes : List ℕ} where
  -- a list is refused by one number only
  same_refusal : {m n : ℕ} → RefusesMaking list classes m → RefusesMaking list classes n → m ≡ n
  same_refusal (not_good a) (not_good b) = refl
  same_refusal (not_good a) (too_few_classes (t, good, few)) = absurd (a t good)
  same_refusal (too_few_classes (t, good, few)) (not_good b) = absurd (b t good)
  same_refusal (too_few_classes a) (too_few_classes b) = refl

  -- a list that is refused has no table
  not_both : {n : ℕ} {P : Tree Leaf → Type 0} → RefusesMaking list classes n → OfGoodClassed list classes P → ⊥
  not_both (not_good a) of = a of.t of.good
  not_both (too_few_classes (t, good, few)) of =
      let one = good_unique list of.t t of.good good in
      let enough = rw one at of.classed in
      omega (arith, enough, few)

  module _ {a b c d : List ℕ} where
    -- two answers for the list's tree
    one_answer : (r s : Option Made) {P Q : Tree Leaf → Type 0} → OfGoodClassed list classes P
        → OfGoodClassed list classes Q
        → ((t : Tree Leaf) → P t → Q t → OneResult a b c d r s) → SameMaking (numbers_for r) (numbers_for s) a b c d
    one_answer r s {P} one other same =
        let result = same other.t
        (subst P (good_unique list one.t other.t one.good other.good) one.holds) other.holds in
        record {
          same_numbers = ap numbers_for result.same_answer;
          same_table = result.same_table;
          same_room = result.same_room;
        }

    -- the result: two results that fit the promise are the same
    pub makes_once : {table room : List ℕ} {m n : MadeNumbers} → Makes list classes table a room c m
        → Makes list classes table b room d n → SameMaking m n a b c d
    makes_once (refused x e f) (refused y g h) = record {
      same_numbers = ap not_made (same_refusal x y);
      same_table = e ∙ sym g;
      same_room = f ∙ sym h;
    }
    makes_once (refused x e f) (made y) = absurd (not_both x y)
    makes_once (refused x e f) (unfit y) = absurd (not_both x y)
    makes_once (made x) (refused y g h) = absurd (not_both y x)
    makes_once (unfit x) (refused y g h) = absurd (not_both y x)
    makes_once (made {states = m} {entries = n} x) (made {states = p} {entries = q} y) =
        one_answer (made_of m n) (made_of p q) x y
        (λ t u v. tabulates_once (made_of m n) (made_of p q) (table_made u) (table_made v))
    makes_once (made {states = m} {entries = n} x) (unfit y) =
        one_answer (made_of m n) None x y
        (λ t u v. tabulates_once (made_of m n) None (table_made u) (does_not_fit v))
    makes_once (unfit x) (made {states = p} {entries = q} y) =
        one_answer None (made_of p q) x y
        (λ t u v. tabulates_once None (made_of p q) (does_not_fit u) (table_made v))
    makes_once (unfit x) (unfit y) =
        one_answer None None x y
        (λ t u v. tabulates_once None None (does_not_fit u) (does_not_fit v))
