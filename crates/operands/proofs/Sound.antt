-- What the scanner gives, the grammar reads: at every place the scanner's state says what was read from the beginning
-- up to there.
use Rattle.std.specs.Prelude.{ℕ, ◌+◌, ◌<◌, ◌≡◌, refl, Bool, true, false, cond, List, [], ◌∷◌, length, ltb}
use Rattle.std.proofs.Math.Option.{Option, none, some}
use Rattle.std.proofs.Common.{add-one, arith, ltb-true}
use Rattle.language.specs.SignedTree.{SignedTree, leaf, star, one_or_more as more, optional, counted}
use Rattle.tree.specs.RefusalNumbers.{too_many_groups, backslash_before_no_sign}
use Rattle.tree.specs.Limits.{most_groups}
use Rattle.operands.specs.Bytes.{Syntax, Sign, opening, closing, bar, asterisk, backslash, dot, bracket, end_bracket, plus, question, brace, end_brace, plain, sign_of, special}
use Rattle.classes.specs.Class.{the_dot, unread, opened, ClassStep, goes_on, whole as whole-class, faulty, class_step}
use Rattle.classes.specs.ClassSound.{at_opened, AfterClassByte, step_kept}
use Rattle.counts.specs.Count.{fewest_due, CountStep, goes_on as counts-on, whole as count-whole, faulty as count-wrong, count_step}
use Rattle.counts.specs.CountSound.{at_opened as at-brace, AfterCountByte as Count-kept, step_kept as count_kept}
use Rattle.operands.specs.Signs.{Means, sign_means}
use Rattle.operands.specs.Scanner.{Atom, literal, one_of, Outcome, tree, refused, Phase, due, escaping, in_class, in_count, after, Waiting, Before, Group, nothing, catenated, united as branched, finished, next_union, next_factor as with-factor, Onward, operand, closed, follow, classed, recounted, byte_at, end_at, scan}
use Rattle.operands.specs.Grammar.{starred, joined, united, BeginsAt, Spells, Written, itself, escaped, any_but_line_end, bracketed, group, no_sign, one_star, one_or_more, none_or_one, so_many, one_factor, next_factor, one_branch, next_branch}
use Rattle.operands.specs.Sound.{Branches, Factors, ReadBefore, ReadAround, ReadSoFar, outermost, in_group, at_class, at_operand, at_escape, at_count, past_operand}

-- nothing is read yet
started : {syntax : Syntax} {size depth : ℕ} {bytes : List ℕ} → ReadBefore syntax size depth bytes bytes nothing
started {bytes = bytes} = record { between = bytes; branches = refl; factors = refl }

-- one more factor makes the catenation
one_more_factor : {syntax : Syntax} {size depth : ℕ} {between from rest : List ℕ} {t : SignedTree Atom}
    (collected : Option Waiting) → Factors syntax size depth between from collected
    → Spells syntax size depth starred from rest t
    → Spells syntax size depth joined between rest (catenated collected t)
one_more_factor none e r = rw e (one_factor r)
one_more_factor (some s) q r = next_factor q.begins q.spelled r

-- one more branch makes the union
one_more_branch : {syntax : Syntax} {size depth : ℕ} {bytes between rest : List ℕ} {t : SignedTree Atom}
    (collected : Option Waiting) → Branches syntax size depth bytes between collected
    → Spells syntax size depth joined between rest t
    → Spells syntax size depth united bytes rest (branched collected t)
one_more_branch none e r = rw e (one_branch r)
one_more_branch (some s) q r = next_branch q.begins q.spelled r

-- the last operand makes the whole expression of a group
complete : {syntax : Syntax} {size depth : ℕ} {bytes from rest : List ℕ} {before : Before} {t : SignedTree Atom}
    → ReadBefore syntax size depth bytes from before → Spells syntax size depth starred from rest t
    → Spells syntax size depth united bytes rest (finished before t)
complete {before = before} w r =
    one_more_branch before.unions w.branches (one_more_factor before.factors w.factors r)

module _ {syntax : Syntax} {whole rest : List ℕ} {before : Before} {groups : List Group} where
  -- where another operand begins, the one read joins the catenation
  joins : {t : SignedTree Atom} {place : ℕ} → BeginsAt (length whole) place rest
      → ReadSoFar syntax whole rest (after t) before groups
      → ReadSoFar syntax whole rest due (with-factor before t place) groups
  joins {t} {place} at (past_operand around w r) =
      at_operand {before = with-factor before t place} around
      (record {
        between = w.between;
        branches = w.branches;
        factors = record { begins = at; spelled = one_more_factor before.factors w.factors r };
      })

  -- a `*` makes a star of the operand
  stars : {t : SignedTree Atom} {place : ℕ} → BeginsAt (length whole) place (42 ∷ rest)
      → ReadSoFar syntax whole (42 ∷ rest) (after t) before groups
      → ReadSoFar syntax whole rest (after (star place t)) before groups
  stars at (past_operand around w r) = past_operand around w (one_star at r)

  -- a `+` and a `?` after the operand
  takes_plus : {b place : ℕ} {t : SignedTree Atom} → sign_of syntax b ≡ plus
      → BeginsAt (length whole) place (b ∷ rest) → ReadSoFar syntax whole (b ∷ rest) (after t) before groups
      → ReadSoFar syntax whole rest (after (more place t)) before groups
  takes_plus p at (past_operand around w r) = past_operand around w (one_or_more p at r)

  takes_question : {b place : ℕ} {t : SignedTree Atom} → sign_of syntax b ≡ question
      → BeginsAt (length whole) place (b ∷ rest) → ReadSoFar syntax whole (b ∷ rest) (after t) before groups
      → ReadSoFar syntax whole rest (after (optional place t)) before groups
  takes_question p at (past_operand around w r) = past_operand around w (none_or_one p at r)

  -- a `{` begins its count
  opens_count : {b place : ℕ} {t : SignedTree Atom} → sign_of syntax b ≡ brace
      → BeginsAt (length whole) place (b ∷ rest) → ReadSoFar syntax whole (b ∷ rest) (after t) before groups
      → ReadSoFar syntax whole rest (in_count place t fewest_due) before groups
  opens_count p at (past_operand around w r) = at_count around w r p at (at-brace refl)

  -- a `|` ends the branch
  ends_branch : {t : SignedTree Atom} {place : ℕ} → BeginsAt (length whole) place (124 ∷ rest)
      → ReadSoFar syntax whole (124 ∷ rest) (after t) before groups
      → ReadSoFar syntax whole rest due (next_union before t place) groups
  ends_branch {t} {place} at (past_operand around w r) =
      at_operand {before = next_union before t place} around
      (record { between = rest; branches = record { begins = at; spelled = complete w r }; factors = refl })

  -- a `)` ends the group: what it held is an operand of what stands around it
  ends_group : {t : SignedTree Atom} {g : Group} → ReadSoFar syntax whole (41 ∷ rest) (after t) before (g ∷ groups)
      → ReadSoFar syntax whole rest (after (finished before t)) g.outside groups
  ends_group (past_operand (in_group h around out) w r) =
      past_operand around out (no_sign (group h (rw (← (add-one (length groups))) at (complete w r))))

  -- a `(` opens a group
  opens_group : {place : ℕ} → length groups < most_groups → ReadSoFar syntax whole (40 ∷ rest) due before groups
      → ReadSoFar syntax whole rest due nothing (record { place = place; outside = before } ∷ groups)
  opens_group h (at_operand around w) = at_operand (in_group h around w) started

  -- a `\` stands before the operand
  escapes : {place : ℕ} → BeginsAt (length whole) place (92 ∷ rest)
      → ReadSoFar syntax whole (92 ∷ rest) due before groups
      → ReadSoFar syntax whole rest (escaping place) before groups
  escapes at (at_operand around w) = at_escape around w at

  -- a special byte after a `\`
  takes_special : {b place : ℕ} → special (sign_of syntax b) ≡ true → ReadSoFar syntax whole (b ∷ rest)
      (escaping place) before groups
      → ReadSoFar syntax whole rest (after (leaf place (literal b))) before groups
  takes_special p (at_escape around w at) = past_operand around w (no_sign (escaped p at))

  -- a byte that stands for itself
  takes_plain : {b place : ℕ} → sign_of syntax b ≡ plain → BeginsAt (length whole) place (b ∷ rest)
      → ReadSoFar syntax whole (b ∷ rest) due before groups
      → ReadSoFar syntax whole rest (after (leaf place (literal b))) before groups
  takes_plain p at (at_operand around w) = past_operand around w (no_sign (itself p at))

  -- a `.` is an operand
  takes_dot : {b place : ℕ} → sign_of syntax b ≡ dot → BeginsAt (length whole) place (b ∷ rest)
      → ReadSoFar syntax whole (b ∷ rest) due before groups
      → ReadSoFar syntax whole rest (after (leaf place (one_of the_dot))) before groups
  takes_dot p at (at_operand around w) = past_operand around w (no_sign (any_but_line_end p at))

  -- a `[` begins a class
  opens_class : {b place : ℕ} → sign_of syntax b ≡ bracket → BeginsAt (length whole) place (b ∷ rest)
      → ReadSoFar syntax whole (b ∷ rest) due before groups
      → ReadSoFar syntax whole rest (in_class place unread opened) before groups
  opens_class p at (at_operand around w) = at_class around w p at (at_opened refl)

-- a refusal is no tree
pub no_tree : {T : Type 0} {number place : ℕ} {t : T} {A : Type 0} → refused number place ≡ tree t → A
no_tree e = let z : ◌≡◌ {A = ℕ} 0 1 = cc in absurd (omega arith)

-- one byte, where what follows it is sound: a state that stands goes over into one that stands, or the byte is refused
module _ (syntax : Syntax) (whole rest : List ℕ) (t : SignedTree Atom) (on : Onward)
    (sound : (phase : Phase) (before : Before) (groups : List Group) → ReadSoFar syntax whole rest phase before groups
    → on phase before groups ≡ tree t → Written syntax whole t) where
  -- a test that has to pass
  only_true : (test : Bool) (first : Outcome (SignedTree Atom)) (number place : ℕ) → (test ≡ true → first ≡ tree t
      → Written syntax whole t)
      → cond test first (refused number place) ≡ tree t → Written syntax whole t
  only_true true first number place k e = k refl e
  only_true false first number place k e = no_tree e

  -- where an operand is due
  operand_sound : (s : Sign) (b place : ℕ) (before : Before) (groups : List Group)
      → BeginsAt (length whole) place (b ∷ rest) → sign_of syntax b ≡ s → Means syntax b s
      → ReadSoFar syntax whole (b ∷ rest) due before groups → operand s b place on before groups ≡ tree t
      → Written syntax whole t
  operand_sound opening b place before groups here p m st e =
      only_true (ltb (length groups) most_groups) _ too_many_groups place
      (λ h. sound due nothing _ (opens_group (ltb-true (length groups) most_groups h) (rw m at st))) e
  operand_sound closing b place before groups here p m st e = no_tree e
  operand_sound bar b place before groups here p m st e = no_tree e
  operand_sound asterisk b place before groups here p m st e = no_tree e
  operand_sound backslash b place before groups here p m st e = sound (escaping place) before groups
      (escapes here (rw m at st)) e
  operand_sound dot b place before groups here p m st e =
      sound (after (leaf place (one_of the_dot))) before groups (takes_dot p here st) e
  operand_sound bracket b place before groups here p m st e =
      sound (in_class place unread opened) before groups (opens_class p here st) e
  operand_sound end_bracket b place before groups here p m st e = no_tree e
  operand_sound plus b place before groups here p m st e = no_tree e
  operand_sound question b place before groups here p m st e = no_tree e
  operand_sound brace b place before groups here p m st e = no_tree e
  operand_sound end_brace b place before groups here p m st e = no_tree e
  operand_sound plain b place before groups here p m st e =
      sound (after (leaf place (literal b))) before groups (takes_plain p here st) e

  -- at a `)` after an operand
  closed_sound : (s : SignedTree Atom) (place : ℕ) (before : Before) (groups : List Group)
      → ReadSoFar syntax whole (41 ∷ rest) (after s) before groups → closed s place on before groups ≡ tree t
      → Written syntax whole t
  closed_sound s place before [] st e = no_tree e
  closed_sound s place before (g ∷ groups) st e = sound (after (finished before s)) g.outside groups (ends_group st)
      e

  -- after an operand
  follow_sound : (sign : Sign) (b : ℕ) (s : SignedTree Atom) (place : ℕ) (before : Before) (groups : List Group)
      → BeginsAt (length whole) place (b ∷ rest) → sign_of syntax b ≡ sign → Means syntax b sign
      → ReadSoFar syntax whole (b ∷ rest) (after s) before groups
      → follow sign b s place on before groups ≡ tree t → Written syntax whole t
  follow_sound asterisk b s place before groups here p m st e = sound (after (star place s)) before groups
      (stars here (rw m at st)) e
  follow_sound plus b s place before groups here p m st e = sound (after (more place s)) before groups
      (takes_plus p here st) e
  follow_sound question b s place before groups here p m st e =
      sound (after (optional place s)) before groups (takes_question p here st) e
  follow_sound brace b s place before groups here p m st e =
      sound (in_count place s fewest_due) before groups (opens_count p here st) e
  follow_sound bar b s place before groups here p m st e =
      sound due (next_union before s place) groups (ends_branch here (rw m at st)) e
  follow_sound closing b s place before groups here p m st e = closed_sound s place before groups (rw m at st) e
  follow_sound opening b s place before groups here p m st e =
      operand_sound opening b place (with-factor before s place) groups here p m (joins here st) e
  follow_sound backslash b s place before groups here p m st e =
      operand_sound backslash b place (with-factor before s place) groups here p m (joins here st) e
  follow_sound dot b s place before groups here p m st e =
      operand_sound dot b place (with-factor before s place) groups here p m (joins here st) e
  follow_sound bracket b s place before groups here p m st e =
      operand_sound bracket b place (with-factor before s place) groups here p m (joins here st) e
  follow_sound end_bracket b s place before groups here p m st e =
      operand_sound end_bracket b place (with-factor before s place) groups here p m (joins here st) e
  follow_sound end_brace b s place before groups here p m st e =
      operand_sound end_brace b place (with-factor before s place) groups here p m (joins here st) e
  follow_sound plain b s place before groups here p m st e =
      operand_sound plain b place (with-factor before s place) groups here p m (joins here st) e

  -- in a class
  class_sound : {inside from : List ℕ} (b begin : ℕ) (before : Before) (groups : List Group)
      → ReadAround syntax whole groups inside
      → ReadBefore syntax (length whole) (length groups) inside (b ∷ from) before
      → sign_of syntax b ≡ bracket → BeginsAt (length whole) begin (b ∷ from) → (step : ClassStep)
      → AfterClassByte from rest step
      → classed step begin on before groups ≡ tree t
      → Written syntax whole t
  class_sound b begin before groups around w p at (goes_on class inner) kept e =
      sound (in_class begin class inner) before groups (at_class around w p at kept) e
  class_sound b begin before groups around w p at (whole-class c) kept e =
      sound (after (leaf begin (one_of c))) before groups (past_operand around w (no_sign (bracketed p at kept))) e
  class_sound b begin before groups around w p at faulty kept e = no_tree e

  -- in a count
  count_sound : {inside from after-sign : List ℕ} {s : SignedTree Atom} (b begin : ℕ) (before : Before)
      (groups : List Group) → ReadAround syntax whole groups inside
      → ReadBefore syntax (length whole) (length groups) inside from before
      → Spells syntax (length whole) (length groups) starred from (b ∷ after-sign) s → sign_of syntax b ≡ brace
      → BeginsAt (length whole) begin (b ∷ after-sign) → (step : CountStep) → Count-kept after-sign rest step
      → recounted step begin s on before groups ≡ tree t → Written syntax whole t
  count_sound {s = s} b begin before groups around w r p at (counts-on counting) kept e =
      sound (in_count begin s counting) before groups (at_count around w r p at kept) e
  count_sound {s = s} b begin before groups around w r p at (count-whole fewest most) kept e =
      sound (after (counted begin fewest most s)) before groups (past_operand around w (so_many p at r kept)) e
  count_sound b begin before groups around w r p at count-wrong kept e = no_tree e

  -- in each phase
  byte_sound : (b place : ℕ) (phase : Phase) (before : Before) (groups : List Group)
      → BeginsAt (length whole) place (b ∷ rest) → ReadSoFar syntax whole (b ∷ rest) phase before groups
      → byte_at syntax b place phase on before groups ≡ tree t
      → Written syntax whole t
  byte_sound b place due before groups here st e =
      operand_sound (sign_of syntax b) b place before groups here refl (sign_means syntax b) st e
  byte_sound b place (escaping begin) before groups here st e =
      only_true (special (sign_of syntax b)) _ backslash_before_no_sign begin
      (λ p. sound (after (leaf begin (literal b))) before groups (takes_special p st)) e
  byte_sound b place (in_class begin class inner) before groups here (at_class {b = sign} {from =
      from} around w p at so_far) e =
      class_sound sign begin before groups around w p at (class_step b class inner)
      (step_kept from rest b class.all_but class.items inner so_far) e
  byte_sound b place (in_count begin s counting) before groups here (at_count {b = sign} {after-sign =
      after-sign} around w r p at so_far) e =
      count_sound sign begin before groups around w r p at (count_step b counting)
      (count_kept after-sign rest b counting so_far) e
  byte_sound b place (after s) before groups here st e =
      follow_sound (sign_of syntax b) b s place before groups here refl (sign_means syntax b)
      st e

-- at the end only an operand with no group open gives a tree
end_sound : (syntax : Syntax) (whole : List ℕ) (t : SignedTree Atom) (place : ℕ) (phase : Phase) (before : Before)
    (groups : List Group)
    → ReadSoFar syntax whole [] phase before groups → end_at place phase before groups ≡ tree t
    → Written syntax whole t
end_sound syntax whole t place due before groups st e = no_tree e
end_sound syntax whole t place (escaping begin) before groups st e = no_tree e
end_sound syntax whole t place (in_class begin class inner) before groups st e = no_tree e
end_sound syntax whole t place (in_count begin s counting) before groups st e = no_tree e
end_sound syntax whole t place (after s) before [] (past_operand outermost w r) e = let same : finished before s ≡ t =
    cc in rw same at (complete w r)
end_sound syntax whole t place (after s) before (g ∷ groups) st e = no_tree e

-- by induction on the bytes that are left
pub scan_sound : (syntax : Syntax) (whole : List ℕ) (t : SignedTree Atom) (rest : List ℕ) (place : ℕ)
    → BeginsAt (length whole) place rest → (phase : Phase) (before : Before) (groups : List Group)
    → ReadSoFar syntax whole rest phase before groups → scan syntax rest place phase before groups ≡ tree t
    → Written syntax whole t
unfolding scan
scan_sound syntax whole t [] place at = end_sound syntax whole t place
scan_sound syntax whole t (b ∷ rest) place at =
    λ phase before groups.
    byte_sound syntax whole rest t (scan syntax rest (place + 1))
    (scan_sound syntax whole t rest (place + 1) (omega arith)) b place phase before groups at

-- what the scanner gives, is written
pub scanner_reads : (syntax : Syntax) (bytes : List ℕ) (t : SignedTree Atom)
    → scan syntax bytes 0 due nothing [] ≡ tree t → Written syntax bytes t
scanner_reads syntax bytes t =
    scan_sound syntax bytes t bytes 0 (omega arith) due nothing [] (at_operand outermost started)
