-- What the scanner can refuse with: the numbers 3 to 7, and in the second syntax 14 and 16, at a place up to the end
-- of the bytes.
use Rattle.std.specs.Prelude.{ℕ, ◌+◌, ◌≤◌, ◌≡◌, refl, ◌⊎◌, Bool, true, false, cond, List, [], ◌∷◌, length, ltb}
use Rattle.std.proofs.Common.{subst, inl, inr, arith}
use Rattle.language.specs.SignedTree.{SignedTree, leaf, star, one_or_more, optional, counted}
use Rattle.tree.specs.RefusalNumbers.{
  operand_missing,
  too_many_groups,
  backslash_before_no_sign,
  class_faulty,
  count_faulty,
}
use Rattle.tree.specs.Limits.{most_groups}
use Rattle.operands.specs.Bytes.{
  Syntax,
  first,
  second,
  Sign,
  opening,
  closing,
  bar,
  asterisk,
  backslash,
  dot,
  bracket,
  end_bracket,
  plus,
  question,
  brace,
  end_brace,
  plain,
  sign_of,
  special,
}
use Rattle.classes.specs.Class.{the_dot, unread, opened, ClassStep, goes_on, whole, faulty, class_step}
use Rattle.counts.specs.Count.{
  fewest_due,
  CountStep,
  goes_on as counts-on,
  whole as count-whole,
  faulty as count-wrong,
  count_step,
}
use Rattle.operands.specs.Signs.{Means, sign_means}
use Rattle.operands.specs.Scanner.{
  Atom,
  literal,
  one_of,
  Outcome,
  tree,
  refused,
  Phase,
  due,
  escaping,
  in_class,
  in_count,
  after,
  Before,
  Group,
  nothing,
  finished,
  next_union,
  next_factor,
  Onward,
  operand,
  closed,
  follow,
  classed,
  recounted,
  byte_at,
  end_at,
  scan,
}

-- no fault has a higher number
abbrev pub highest : Syntax → ℕ
highest first = backslash_before_no_sign
highest second = count_faulty

-- a refusal of the scanner: its number is one of 3 to 7, or 14 or 16 and these not above the syntax's highest; its
-- place is at most the end
pub record Fault (syntax : Syntax) (end number place : ℕ) : Type 0 where
  pub least : operand_missing ≤ number
  pub most : number ≤ highest syntax
  pub named : (number ≤ backslash_before_no_sign) ⊎ ((number ≡ class_faulty) ⊎ (number ≡ count_faulty))
  pub inside : place ≤ end

-- 3 to 7 are given in both syntaxes
pub seven_given : (syntax : Syntax) → backslash_before_no_sign ≤ highest syntax
seven_given first = omega arith
seven_given second = omega arith

-- 14 and 16 are given in the second
sixteen_given : (syntax : Syntax) → syntax ≡ second → count_faulty ≤ highest syntax
sixteen_given syntax e = rw e (omega arith)

-- an outcome that is a tree, or such a refusal
abbrev pub TreeOrFault : Syntax → ℕ → Outcome (SignedTree Atom) → Type 0
TreeOrFault syntax end (tree t) = Unit {0}
TreeOrFault syntax end (refused number place) = Fault syntax end number place

-- the `\` stands before the end, and so does the `[` or `{`, which only the second syntax has
abbrev EscapeBefore : Syntax → ℕ → Phase → Type 0
EscapeBefore syntax end due = Unit {0}
EscapeBefore syntax end (escaping begin) = begin ≤ end
EscapeBefore syntax end (in_class begin class inside) = (begin ≤ end) × (count_faulty ≤ highest syntax)
EscapeBefore syntax end (in_count begin t counting) = (begin ≤ end) × (count_faulty ≤ highest syntax)
EscapeBefore syntax end (after t) = Unit {0}

-- every open `(` stands before the end
abbrev OpenBefore : ℕ → List Group → Type 0
OpenBefore end [] = Unit {0}
OpenBefore end (g ∷ groups) = (g.place ≤ end) × OpenBefore end groups

-- the refusals at a place that is not past the end
module _ (syntax : Syntax) (end : ℕ) where
  -- 3 to 7 at this place, or before it
  usual : {number at : ℕ} → operand_missing ≤ number → number ≤ backslash_before_no_sign → at ≤ end
      → Fault syntax end number at
  usual l m i = record { least = l; most = omega (arith, seven_given syntax); named = inl m; inside = i }

  -- 14
  class_fault : {at : ℕ} → at ≤ end → count_faulty ≤ highest syntax → Fault syntax end class_faulty at
  class_fault i m = record { least = omega arith; most = omega (arith, m); named = inr (inl refl); inside = i }

  -- 16
  count_fault : {at : ℕ} → at ≤ end → count_faulty ≤ highest syntax → Fault syntax end count_faulty at
  count_fault i m = record { least = omega arith; most = m; named = inr (inr refl); inside = i }

  -- at the end in each phase
  end_fits : (place : ℕ) → place ≤ end → (phase : Phase) (before : Before) (groups : List Group)
      → EscapeBefore syntax end phase → OpenBefore end groups
      → TreeOrFault syntax end (end_at place phase before groups)
  end_fits place h due before groups m o = usual (omega arith) (omega arith) h
  end_fits place h (escaping begin) before groups m o = usual (omega arith) (omega arith) m
  end_fits place h (in_class begin class inside) before groups m o = class_fault m.0 m.1
  end_fits place h (in_count begin t counting) before groups m o = count_fault m.0 m.1
  end_fits place h (after t) before [] m o = tt
  end_fits place h (after t) before (g ∷ groups) m o = usual (omega arith) (omega arith) o.0

-- one byte before the end, where whatever follows it fits
module _ (syntax : Syntax) (end place : ℕ) (h : place ≤ end) (on : Onward) (fits : (phase : Phase) (before : Before)
    (groups : List Group) → EscapeBefore syntax end phase → OpenBefore end groups
    → TreeOrFault syntax end (on phase before groups)) where
  -- whichever of two outcomes a test picks
  picked_fits : (test : Bool) (a b : Outcome (SignedTree Atom)) → TreeOrFault syntax end a
      → TreeOrFault syntax end b
      → TreeOrFault syntax end (cond test a b)
  picked_fits true a b p q = p
  picked_fits false a b p q = q

  -- where an operand is due
  operand_fits : (s : Sign) (b : ℕ) (before : Before) (groups : List Group) → Means syntax b s → OpenBefore end groups
      → TreeOrFault syntax end (operand s b place on before groups)
  operand_fits opening b before groups m o =
      picked_fits (ltb (length groups) most_groups) _ (refused too_many_groups place)
      (fits due nothing (record { place = place; outside = before } ∷ groups) tt (h, o))
      (usual syntax end (omega arith) (omega arith) h)
  operand_fits closing b before groups m o = usual syntax end (omega arith) (omega arith) h
  operand_fits bar b before groups m o = usual syntax end (omega arith) (omega arith) h
  operand_fits asterisk b before groups m o = usual syntax end (omega arith) (omega arith) h
  operand_fits backslash b before groups m o = fits (escaping place) before groups h o
  operand_fits dot b before groups m o = fits (after (leaf place (one_of the_dot))) before groups tt o
  operand_fits bracket b before groups m o =
      fits (in_class place unread opened) before groups (h, sixteen_given syntax m.0) o
  operand_fits end_bracket b before groups m o = class_fault syntax end h (sixteen_given syntax m.0)
  operand_fits plus b before groups m o = usual syntax end (omega arith) (omega arith) h
  operand_fits question b before groups m o = usual syntax end (omega arith) (omega arith) h
  operand_fits brace b before groups m o = usual syntax end (omega arith) (omega arith) h
  operand_fits end_brace b before groups m o = count_fault syntax end h (sixteen_given syntax m.0)
  operand_fits plain b before groups m o = fits (after (leaf place (literal b))) before groups tt o

  -- at a `)` after an operand
  closed_fits : (t : SignedTree Atom) (before : Before) (groups : List Group) → OpenBefore end groups
      → TreeOrFault syntax end (closed t place on before groups)
  closed_fits t before [] o = usual syntax end (omega arith) (omega arith) h
  closed_fits t before (g ∷ groups) o = fits (after (finished before t)) g.outside groups tt o.1

  -- after an operand
  follow_fits : (s : Sign) (b : ℕ) (t : SignedTree Atom) (before : Before) (groups : List Group) → Means syntax b s
      → OpenBefore end groups → TreeOrFault syntax end (follow s b t place on before groups)
  follow_fits asterisk b t before groups m o = fits (after (star place t)) before groups tt o
  follow_fits plus b t before groups m o = fits (after (one_or_more place t)) before groups tt o
  follow_fits question b t before groups m o = fits (after (optional place t)) before groups tt o
  follow_fits brace b t before groups m o =
      fits (in_count place t fewest_due) before groups (h, sixteen_given syntax m.0) o
  follow_fits bar b t before groups m o = fits due (next_union before t place) groups tt o
  follow_fits closing b t before groups m o = closed_fits t before groups o
  follow_fits opening b t before groups m o = operand_fits opening b (next_factor before t place) groups m o
  follow_fits backslash b t before groups m o = operand_fits backslash b (next_factor before t place) groups m o
  follow_fits dot b t before groups m o = operand_fits dot b (next_factor before t place) groups m o
  follow_fits bracket b t before groups m o = operand_fits bracket b (next_factor before t place) groups m o
  follow_fits end_bracket b t before groups m o = operand_fits end_bracket b (next_factor before t place) groups m o
  follow_fits end_brace b t before groups m o = operand_fits end_brace b (next_factor before t place) groups m o
  follow_fits plain b t before groups m o = operand_fits plain b (next_factor before t place) groups m o

  -- in a class
  class_fits : (step : ClassStep) (begin : ℕ) (before : Before) (groups : List Group) → begin ≤ end
      → count_faulty ≤ highest syntax
      → OpenBefore end groups → TreeOrFault syntax end (classed step begin on before groups)
  class_fits (goes_on class inside) begin before groups i m o =
      fits (in_class begin class inside) before groups (i, m) o
  class_fits (whole class) begin before groups i m o = fits (after (leaf begin (one_of class))) before groups tt o
  class_fits faulty begin before groups i m o = class_fault syntax end i m

  -- in a count
  count_fits : (step : CountStep) (begin : ℕ) (t : SignedTree Atom) (before : Before) (groups : List Group)
      → begin ≤ end → count_faulty ≤ highest syntax → OpenBefore end groups
      → TreeOrFault syntax end (recounted step begin t on before groups)
  count_fits (counts-on counting) begin t before groups i m o =
      fits (in_count begin t counting) before groups (i, m) o
  count_fits (count-whole fewest most) begin t before groups i m o =
      fits (after (counted begin fewest most t)) before groups tt o
  count_fits count-wrong begin t before groups i m o = count_fault syntax end i m

  -- in each phase
  byte_fits : (b : ℕ) (phase : Phase) (before : Before) (groups : List Group) → EscapeBefore syntax end phase
      → OpenBefore end groups → TreeOrFault syntax end (byte_at syntax b place phase on before groups)
  byte_fits b due before groups m o = operand_fits (sign_of syntax b) b before groups (sign_means syntax b) o
  byte_fits b (escaping begin) before groups m o =
      picked_fits (special (sign_of syntax b)) _ (refused backslash_before_no_sign begin)
      (fits (after (leaf begin (literal b))) before groups tt o) (usual syntax end (omega arith) (omega arith) m)
  byte_fits b (in_class begin class inside) before groups m o =
      class_fits (class_step b class inside) begin before groups m.0 m.1 o
  byte_fits b (in_count begin t counting) before groups m o =
      count_fits (count_step b counting) begin t before groups m.0 m.1 o
  byte_fits b (after t) before groups m o = follow_fits (sign_of syntax b) b t before groups (sign_means syntax b) o

-- by induction on the bytes that are left
scan_fits : (syntax : Syntax) (end : ℕ) (bytes : List ℕ) (place : ℕ) → place + length bytes ≤ end
    → (phase : Phase) (before : Before) (groups : List Group) → EscapeBefore syntax end phase → OpenBefore end groups
    → TreeOrFault syntax end (scan syntax bytes place phase before groups)
unfolding scan
scan_fits syntax end [] place h = end_fits syntax end place (omega arith)
scan_fits syntax end (b ∷ rest) place h =
    byte_fits syntax end place (omega arith) (scan syntax rest (place + 1))
    (scan_fits syntax end rest (place + 1) (omega arith)) b

-- the scan of a whole expression refuses with such a number, at a place up to its length
pub refused_cases : (syntax : Syntax) (bytes : List ℕ) (number place : ℕ)
    → scan syntax bytes 0 due nothing [] ≡ refused number place → Fault syntax (length bytes) number place
refused_cases syntax bytes number place e =
    subst (TreeOrFault syntax (length bytes)) e
    (scan_fits syntax (length bytes) bytes 0 (omega arith) due nothing [] tt tt)
