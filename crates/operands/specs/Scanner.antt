-- The table of refusals, as a scanner that takes one byte after the other and gives the tree or the first fault.
use Rattle.std.specs.Prelude.{ℕ, ◌+◌, cond, List, [], ◌∷◌, length, ltb}
use Rattle.std.proofs.Math.Option.{Option, none, some}
use Rattle.language.specs.SignedTree.{
  SignedTree,
  leaf,
  catenation,
  union,
  star,
  one_or_more,
  optional,
  counted,
}
use Rattle.tree.specs.RefusalNumbers.{
  expression_empty,
  expression_too_long,
  operand_missing,
  group_left_open,
  closing_without_group,
  too_many_groups,
  backslash_before_no_sign,
  class_faulty,
  count_faulty,
}
use Rattle.tree.specs.Limits.{most_groups, longest_expression}
use Rattle.operands.specs.Bytes.{
  Syntax,
  Sign,
  opening,
  closing,
  bar,
  asterisk,
  backslash,
  dot,
  bracket,
  end_bracket,
  plus,
  question,
  brace,
  end_brace,
  plain,
  sign_of,
  special,
}
use Rattle.classes.specs.Class.{Class, the_dot, unread, Inside, opened, ClassStep, goes_on, whole, faulty, class_step}
use Rattle.counts.specs.Count.{
  Counting,
  fewest_due,
  CountStep,
  goes_on as counts-on,
  whole as count-whole,
  faulty as count-wrong,
  count_step,
}

-- what a leaf of an expression's tree is: a byte, one of a class, or the empty text, which `?` and counts add
pub data Atom : Type 0 where
  literal : ℕ → Atom
  one_of : Class → Atom
  no_text : Atom

-- what reading gives: a tree, or the first fault by number and place
pub data Outcome (T : Type 0) : Type 0 where
  tree : T → Outcome T
  refused : (number place : ℕ) → Outcome T

-- where the scanner stands: an operand is due; a `\` stands at this place; this much was read of the class whose `[`
-- stands at this place, or of the count of this operand whose `{` stands there; an operand with this tree has just been
-- read
pub data Phase : Type 0 where
  due : Phase
  escaping : (place : ℕ) → Phase
  in_class : (place : ℕ) → Class → Inside → Phase
  in_count : (place : ℕ) → SignedTree Atom → Counting → Phase
  after : SignedTree Atom → Phase

-- a tree that waits for the one to its right, and the place that the node over both will have
pub record Waiting : Type 0 where
  pub place : ℕ
  pub left : SignedTree Atom

-- what was read of an expression before the operand at hand: the union up to the last `|`, which is the place of the
-- next union, and the catenation after it, with the place where the operand at hand begins
pub record Before : Type 0 where
  pub unions : Option Waiting
  pub factors : Option Waiting

-- an open group: the place of its `(`, and what was read before it
pub record Group : Type 0 where
  pub place : ℕ
  pub outside : Before

-- nothing was read yet
abbrev pub nothing : Before
nothing = record { unions = none; factors = none }

-- the catenation, grouped to the left, with one more operand
abbrev pub catenated : Option Waiting → SignedTree Atom → SignedTree Atom
catenated none t = t
catenated (some s) t = catenation s.place s.left t

-- the union, grouped to the left, with one more
abbrev pub united : Option Waiting → SignedTree Atom → SignedTree Atom
united none t = t
united (some s) t = union s.place s.left t

-- the tree of what was read, with the last operand
abbrev pub finished : Before → SignedTree Atom → SignedTree Atom
finished before t = united before.unions (catenated before.factors t)

-- after a `|` at a place: the union so far, and no catenation yet
abbrev pub next_union : Before → SignedTree Atom → (place : ℕ) → Before
next_union before t place =
    record { unions = some (record { place = place; left = finished before t }); factors = none }

-- before another operand, which begins at a place: the catenation so far
abbrev pub next_factor : Before → SignedTree Atom → (place : ℕ) → Before
next_factor before t place =
    record {
      unions = before.unions;
      factors = some (record { place = place; left = catenated before.factors t });
    }

-- how the scan goes on: with this phase, what was read before, and the open groups, the innermost first
abbrev pub Onward : Type 0
Onward = Phase → Before → List Group → Outcome (SignedTree Atom)

-- an operand is due and the byte b stands at the place: 3 at a `|`, `)`, `*`, `+`, `?` or `{`; 6 at a `(` that would
-- open a 33rd group; 14 at a `]`; 16 at a `}`
abbrev pub operand : Sign → ℕ → ℕ → Onward → Before → List Group → Outcome (SignedTree Atom)
operand opening b place on before groups =
    cond (ltb (length groups) most_groups)
    (on due nothing (record { place = place; outside = before } ∷ groups))
    (refused too_many_groups place)
operand closing b place on before groups = refused operand_missing place
operand bar b place on before groups = refused operand_missing place
operand asterisk b place on before groups = refused operand_missing place
operand backslash b place on before groups = on (escaping place) before groups
operand dot b place on before groups = on (after (leaf place (one_of the_dot))) before groups
operand bracket b place on before groups = on (in_class place unread opened) before groups
operand end_bracket b place on before groups = refused class_faulty place
operand plus b place on before groups = refused operand_missing place
operand question b place on before groups = refused operand_missing place
operand brace b place on before groups = refused operand_missing place
operand end_brace b place on before groups = refused count_faulty place
operand plain b place on before groups = on (after (leaf place (literal b))) before groups

-- a `)` after an operand: 5 with no group open
abbrev pub closed : SignedTree Atom → ℕ → Onward → Before → List Group → Outcome (SignedTree Atom)
closed t place on before [] = refused closing_without_group place
closed t place on before (group ∷ groups) = on (after (finished before t)) group.outside groups

-- the byte b after an operand: a sign that makes an operand of it, a `{` that begins its count, a `|`, a `)`, or the
-- next operand
abbrev pub follow : Sign → ℕ → SignedTree Atom → ℕ → Onward → Before → List Group → Outcome (SignedTree Atom)
follow asterisk b t place on before groups = on (after (star place t)) before groups
follow plus b t place on before groups = on (after (one_or_more place t)) before groups
follow question b t place on before groups = on (after (optional place t)) before groups
follow brace b t place on before groups = on (in_count place t fewest_due) before groups
follow bar b t place on before groups = on due (next_union before t place) groups
follow closing b t place on before groups = closed t place on before groups
follow opening b t place on before groups = operand opening b place on (next_factor before t place) groups
follow backslash b t place on before groups = operand backslash b place on (next_factor before t place) groups
follow dot b t place on before groups = operand dot b place on (next_factor before t place) groups
follow bracket b t place on before groups = operand bracket b place on (next_factor before t place) groups
follow end_bracket b t place on before groups = operand end_bracket b place on (next_factor before t place) groups
follow end_brace b t place on before groups = operand end_brace b place on (next_factor before t place) groups
follow plain b t place on before groups = operand plain b place on (next_factor before t place) groups

-- a byte inside a class whose `[` stands at `begin`: every fault of a class is 14 there
abbrev pub classed : ClassStep → (begin : ℕ) → Onward → Before → List Group → Outcome (SignedTree Atom)
classed (goes_on class inside) begin on before groups = on (in_class begin class inside) before groups
classed (whole class) begin on before groups = on (after (leaf begin (one_of class))) before groups
classed faulty begin on before groups = refused class_faulty begin

-- a byte inside the count of t whose `{` stands at `begin`: every fault of a count is 16 there
abbrev pub recounted : CountStep → (begin : ℕ) → SignedTree Atom → Onward → Before → List Group
    → Outcome (SignedTree Atom)
recounted (counts-on counting) begin t on before groups = on (in_count begin t counting) before groups
recounted (count-whole fewest most) begin t on before groups = on (after (counted begin fewest most t)) before groups
recounted count-wrong begin t on before groups = refused count_faulty begin

-- one byte at a place
abbrev pub byte_at : Syntax → ℕ → ℕ → Phase → Onward → Before → List Group → Outcome (SignedTree Atom)
byte_at syntax b place due on before groups = operand (sign_of syntax b) b place on before groups
byte_at syntax b place (escaping begin) on before groups =
    cond (special (sign_of syntax b)) (on (after (leaf begin (literal b))) before groups)
    (refused backslash_before_no_sign begin)
byte_at syntax b place (in_class begin class inside) on before groups =
    classed (class_step b class inside) begin on before groups
byte_at syntax b place (in_count begin t counting) on before groups =
    recounted (count_step b counting) begin t on before groups
byte_at syntax b place (after t) on before groups = follow (sign_of syntax b) b t place on before groups

-- the end of the expression: 3 where an operand is due, 7 after a `\`, 14 in a class, 16 in a count, 4 with a group
-- open
abbrev pub end_at : ℕ → Phase → Before → List Group → Outcome (SignedTree Atom)
end_at place due before groups = refused operand_missing place
end_at place (escaping begin) before groups = refused backslash_before_no_sign begin
end_at place (in_class begin class inside) before groups = refused class_faulty begin
end_at place (in_count begin t counting) before groups = refused count_faulty begin
end_at place (after t) before [] = tree (finished before t)
end_at place (after t) before (group ∷ groups) = refused group_left_open group.place

-- the bytes from a place on
unfoldable pub scan : Syntax → List ℕ → ℕ → Phase → Before → List Group → Outcome (SignedTree Atom)
scan syntax [] place phase before groups = end_at place phase before groups
scan syntax (b ∷ rest) place phase before groups =
    byte_at syntax b place phase (scan syntax rest (place + 1)) before groups

-- a whole expression: 1 where it has no bytes, 2 where it has more than 1,024, else the first fault from left to right,
-- or its tree
unfoldable pub scanned : Syntax → List ℕ → Outcome (SignedTree Atom)
scanned syntax [] = refused expression_empty 0
scanned syntax (b ∷ rest) =
    cond (ltb longest_expression (length (b ∷ rest))) (refused expression_too_long longest_expression)
    (scan syntax (b ∷ rest) 0 due nothing [])
