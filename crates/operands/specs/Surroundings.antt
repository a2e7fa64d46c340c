-- Reading in all surroundings: scanning on from a place with an operand due is scanning on from a later place after a
-- tree, or a refusal.
use Rattle.std.specs.Prelude.{ℕ, suc, ◌+◌, ◌<◌, ◌≤◌, ◌≡◌, refl, Bool, true, false, cond, length, drop, get_or}
use Rattle.std.proofs.Common.{arith, add-one, sym, ◌∙◌, drop-cons, lt-ltb, le-ltb}
use Rattle.std.proofs.Math.Path.{ap}
use Rattle.std.proofs.Math.Option.{Option, none, some}
use mathlib.Core.List.{List, [], ◌∷◌}
use Rattle.std.proofs.Math.Seq.{drop-length}
use Rattle.language.specs.SignedTree.{
  SignedTree,
  leaf,
  catenation,
  union,
  star,
  one_or_more,
  optional,
  counted,
}
use Rattle.tree.specs.RefusalNumbers.{
  operand_missing,
  group_left_open,
  closing_without_group,
  too_many_groups,
  backslash_before_no_sign,
  class_faulty,
  count_faulty,
}
use Rattle.tree.specs.Limits.{most_groups}
use Rattle.operands.specs.Bytes.{
  Syntax,
  second,
  Sign,
  opening,
  closing,
  bar,
  asterisk,
  backslash,
  dot,
  bracket,
  end_bracket,
  plus,
  question,
  brace,
  end_brace,
  plain,
  sign_of,
  special,
}
use Rattle.classes.specs.Class.{Class, the_dot, unread, opened as class-opened}
use Rattle.classes.specs.ClassRun.{found, failed}
use Rattle.operands.specs.ScanClass.{after_class, scan_class}
use Rattle.classes.specs.ClassAt.{run_at}
use Rattle.counts.specs.Count.{fewest_due}
use Rattle.counts.specs.CountRun.{found as count_found, failed as count-failed, count_at}
use Rattle.operands.specs.ScanCount.{after_count, scan_count}
use Rattle.operands.specs.Signs.{Means, sign_means}
use Rattle.operands.specs.Scanner.{
  Atom,
  literal,
  one_of,
  tree,
  refused,
  Phase,
  due,
  escaping,
  after,
  Waiting,
  Before,
  Group,
  nothing,
  finished,
  next_union,
  next_factor,
  Onward,
  operand,
  follow,
  byte_at,
  end_at,
  scan,
}
use Rattle.operands.specs.Grammar.{Level, single, starred, joined, united}
use Rattle.operands.specs.Stopping.{stopping, Stops, at_end, at_sign, beginning}

-- the scan of the bytes from a place on
unfoldable pub scan_from : Syntax → List ℕ → ℕ → Onward
scan_from syntax bytes at = scan syntax (drop at bytes) at

-- what may stand before a reading of this level: before an operand anything, before a catenation no factor, before a
-- union nothing
abbrev pub seen : Level → Before → Before
seen single before = before
seen starred before = before
seen joined before = record { unions = before.unions; factors = none }
seen united before = nothing

-- in all surroundings with `depth` groups open, scanning on from `at` with an operand due is scanning on from `next`
-- after t
pub record Leads (syntax : Syntax) (level : Level) (bytes : List ℕ) (depth at : ℕ) (t : SignedTree Atom)
    (next : ℕ) : Type 0 where
  pub onward : (before : Before) (groups : List Group) → length groups ≡ depth
      → scan_from syntax bytes at due (seen level before) groups
      ≡ scan_from syntax bytes next (after t) (seen level before) groups

-- in all surroundings with `depth` groups open, scanning on from `at` with an operand due gives this refusal
pub record Fails (syntax : Syntax) (level : Level) (bytes : List ℕ) (depth at number place : ℕ) : Type 0 where
  pub onward : (before : Before) (groups : List Group) → length groups ≡ depth
      → scan_from syntax bytes at due (seen level before) groups ≡ refused number place

-- where an operand stops it makes no difference whether it is still a factor of its own or the catenation's last
factor_follow : (u : Option Waiting) (s : Waiting) (t : SignedTree Atom) (sign : Sign) (b place : ℕ) (on : Onward)
    (groups : List Group) → stopping starred sign ≡ true
    → follow sign b t place on (record { unions = u; factors = some s }) groups
    ≡ follow sign b (catenation s.place s.left t) place on (record { unions = u; factors = none }) groups
factor_follow u s t asterisk b place on groups stop = cc
factor_follow u s t plus b place on groups stop = cc
factor_follow u s t question b place on groups stop = cc
factor_follow u s t brace b place on groups stop = cc
factor_follow u s t opening b place on groups stop = refl
factor_follow u s t end_brace b place on groups stop = refl
factor_follow u s t bar b place on groups stop = refl
factor_follow u s t backslash b place on groups stop = refl
factor_follow u s t dot b place on groups stop = refl
factor_follow u s t bracket b place on groups stop = refl
factor_follow u s t end_bracket b place on groups stop = refl
factor_follow u s t plain b place on groups stop = refl
factor_follow u s t closing b place on [] stop = refl
factor_follow u s t closing b place on (group ∷ groups) stop = refl

-- where a catenation stops it makes no difference whether it is still a branch of its own or the union's last
branch_follow : (s : Waiting) (t : SignedTree Atom) (sign : Sign) (b place : ℕ) (on : Onward) (groups : List Group)
    → stopping joined sign ≡ true → follow sign b t place on (record { unions = some s; factors = none }) groups
    ≡ follow sign b (union s.place s.left t) place on nothing groups
branch_follow s t asterisk b place on groups stop = cc
branch_follow s t plus b place on groups stop = cc
branch_follow s t question b place on groups stop = cc
branch_follow s t brace b place on groups stop = cc
branch_follow s t end_brace b place on groups stop = cc
branch_follow s t opening b place on groups stop = cc
branch_follow s t backslash b place on groups stop = cc
branch_follow s t dot b place on groups stop = cc
branch_follow s t bracket b place on groups stop = cc
branch_follow s t end_bracket b place on groups stop = cc
branch_follow s t plain b place on groups stop = cc
branch_follow s t bar b place on groups stop = refl
branch_follow s t closing b place on [] stop = refl
branch_follow s t closing b place on (group ∷ groups) stop = refl

-- at the end only the finished tree counts
end_same : (t : SignedTree Atom) (place : ℕ) (before : Before) (s : SignedTree Atom) (other : Before)
    (groups : List Group)
    → finished before t ≡ finished other s → end_at place (after t) before groups ≡ end_at place (after s) other groups
end_same t place before s other [] e = ap tree e
end_same t place before s other (group ∷ groups) e = refl

-- before the next operand the last one is taken into the catenation
begin_follow : (sign : Sign) (b : ℕ) (t : SignedTree Atom) (place : ℕ) (on : Onward) (before : Before)
    (groups : List Group)
    → beginning sign ≡ true → follow sign b t place on before groups
    ≡ operand sign b place on (next_factor before t place) groups
begin_follow opening b t place on before groups e = refl
begin_follow backslash b t place on before groups e = refl
begin_follow dot b t place on before groups e = refl
begin_follow bracket b t place on before groups e = refl
begin_follow end_bracket b t place on before groups e = refl
begin_follow end_brace b t place on before groups e = refl
begin_follow plain b t place on before groups e = refl
begin_follow plus b t place on before groups e = cc
begin_follow question b t place on before groups e = cc
begin_follow brace b t place on before groups e = cc
begin_follow asterisk b t place on before groups e = cc
begin_follow bar b t place on before groups e = cc
begin_follow closing b t place on before groups e = cc

-- a sign that only the second syntax has, where an operand is due: it begins one, or is a fault of its own
abbrev pub class_begins : Sign → Bool
class_begins opening = false
class_begins closing = false
class_begins bar = false
class_begins asterisk = false
class_begins backslash = false
class_begins dot = true
class_begins bracket = true
class_begins end_bracket = true
class_begins plus = false
class_begins question = false
class_begins brace = false
class_begins end_brace = true
class_begins plain = false

-- where an operand is due, every other special byte but `(` and `\` is 3
due_special : (syntax : Syntax) (sign : Sign) (b place : ℕ) (on : Onward) (before : Before) (groups : List Group)
    → Means syntax b sign → (b ≡ 40 → ⊥) → (b ≡ 92 → ⊥) → class_begins sign ≡ false → special sign ≡ true
    → operand sign b place on before groups ≡ refused operand_missing place
due_special syntax closing b place on before groups means no-opening no-backslash common e = refl
due_special syntax bar b place on before groups means no-opening no-backslash common e = refl
due_special syntax asterisk b place on before groups means no-opening no-backslash common e = refl
due_special syntax plus b place on before groups means no-opening no-backslash common e = refl
due_special syntax question b place on before groups means no-opening no-backslash common e = refl
due_special syntax brace b place on before groups means no-opening no-backslash common e = refl
due_special syntax opening b place on before groups means no-opening no-backslash common e = absurd (no-opening means)
due_special syntax backslash b place on before groups means no-opening no-backslash common e =
    absurd (no-backslash means)
due_special syntax dot b place on before groups means no-opening no-backslash common e = cc
due_special syntax bracket b place on before groups means no-opening no-backslash common e = cc
due_special syntax end_bracket b place on before groups means no-opening no-backslash common e = cc
due_special syntax end_brace b place on before groups means no-opening no-backslash common e = cc
due_special syntax plain b place on before groups means no-opening no-backslash common e = cc

module _ (syntax : Syntax) (bytes : List ℕ) where
  -- at a byte the scan takes it, and goes on from the next place
  pub from_byte : (at : ℕ) (phase : Phase) (before : Before) (groups : List Group) → at < length bytes
      → scan_from syntax bytes at phase before groups
      ≡ byte_at syntax (get_or bytes at 0) at phase (scan_from syntax bytes (at + 1)) before groups
  unfolding scan_from scan
  from_byte at phase before groups h =
      ap (λ (l : List ℕ). scan syntax l at phase before groups) (drop-cons bytes at 0 h)
      ∙ ap (λ (n : ℕ). byte_at syntax (get_or bytes at 0) at phase (scan syntax (drop n bytes) (at + 1)) before groups)
      (sym (add-one at))

  -- at the end
  pub from_end : (phase : Phase) (before : Before) (groups : List Group)
      → scan_from syntax bytes (length bytes) phase before groups
      ≡ end_at (length bytes) phase before groups
  unfolding scan_from scan
  from_end phase before groups = rw drop-length

  -- the byte at a place
  abbrev byte : ℕ → ℕ
  byte at = get_or bytes at 0

  -- the same, where the sign of the byte is known
  at_due : {s : Sign} (at : ℕ) (before : Before) (groups : List Group) → at < length bytes
      → sign_of syntax (byte at) ≡ s
      → scan_from syntax bytes at due before groups
      ≡ operand s (byte at) at (scan_from syntax bytes (at + 1)) before groups
  at_due at before groups h e = from_byte at due before groups h
      ∙ ap (λ (s : Sign). operand s (byte at) at (scan_from syntax bytes (at + 1)) before groups) e

  at_after : {s : Sign} (at : ℕ) (t : SignedTree Atom) (before : Before) (groups : List Group) → at < length bytes
      → sign_of syntax (byte at) ≡ s → scan_from syntax bytes at (after t) before groups
      ≡ follow s (byte at) t at (scan_from syntax bytes (at + 1)) before groups
  at_after at t before groups h e = from_byte at (after t) before groups h
      ∙ ap (λ (s : Sign). follow s (byte at) t at (scan_from syntax bytes (at + 1)) before groups) e

  -- a plain byte stands for itself
  pub leads_plain : (depth at : ℕ) → at < length bytes → sign_of syntax (byte at) ≡ plain
      → Leads syntax starred bytes depth at (leaf at (literal (byte at))) (at + 1)
  leads_plain depth at h e = record { onward = λ before groups d. at_due at before groups h e }

  -- a special byte after a `\` stands for itself
  pub leads_escaped : (depth at : ℕ) → at + 1 < length bytes → byte at ≡ 92
      → special (sign_of syntax (byte (at + 1))) ≡ true
      → Leads syntax starred bytes depth at (leaf at (literal (byte (at + 1)))) (at + 1 + 1)
  leads_escaped depth at h e s =
      record {
        onward = λ before groups d.
            at_due at before groups (omega arith) (ap (sign_of syntax) e)
            ∙ from_byte (at + 1) (escaping at) before groups h
            ∙ ap (λ (b : Bool).
            cond b (scan_from syntax bytes (at + 1 + 1) (after (leaf at (literal (byte (at + 1))))) before groups)
            (refused backslash_before_no_sign at)) s;
      }

  -- every other byte after a `\`, and the end, is a fault
  pub fails_escaped : (depth at : ℕ) → at + 1 < length bytes → byte at ≡ 92
      → special (sign_of syntax (byte (at + 1))) ≡ false
      → Fails syntax starred bytes depth at backslash_before_no_sign at
  fails_escaped depth at h e s =
      record {
        onward = λ before groups d.
            at_due at before groups (omega arith) (ap (sign_of syntax) e)
            ∙ from_byte (at + 1) (escaping at) before groups h
            ∙ ap (λ (b : Bool).
            cond b (scan_from syntax bytes (at + 1 + 1) (after (leaf at (literal (byte (at + 1))))) before groups)
            (refused backslash_before_no_sign at)) s;
      }

  pub fails_last : (depth at : ℕ) → at + 1 ≡ length bytes → byte at ≡ 92
      → Fails syntax starred bytes depth at backslash_before_no_sign at
  fails_last depth at h e =
      record {
        onward = λ before groups d.
            at_due at before groups (omega arith) (ap (sign_of syntax) e) ∙ rw h (from_end (escaping at) before groups);
      }

  -- the end where an operand is due
  pub fails_end : (depth at : ℕ) → at ≡ length bytes → Fails syntax starred bytes depth at operand_missing at
  fails_end depth at e = record { onward = λ before groups d. rw e (from_end due before groups) }

  -- a `|`, `)`, `*`, `+`, `?` or `{` where an operand is due
  pub fails_special : (depth at : ℕ) → at < length bytes → (byte at ≡ 40 → ⊥) → (byte at ≡ 92 → ⊥)
      → class_begins (sign_of syntax (byte at)) ≡ false → special (sign_of syntax (byte at)) ≡ true
      → Fails syntax starred bytes depth at operand_missing at
  fails_special depth at h no-opening no-backslash common e =
      record {
        onward = λ before groups d.
            from_byte at due before groups h ∙ due_special syntax (sign_of syntax (byte at)) (byte at) at
            (scan_from syntax bytes (at + 1)) before
            groups (sign_means syntax (byte at)) no-opening no-backslash common e;
      }

  -- a star of what was read
  pub leads_star : {depth at : ℕ} {t : SignedTree Atom} (place : ℕ) → Leads syntax starred bytes depth at t place
      → place < length bytes → byte place ≡ 42 → Leads syntax starred bytes depth at (star place t) (place + 1)
  leads_star place l h e =
      record {
        onward = λ before groups d. l.onward before groups d
            ∙ at_after place _ before groups h (ap (sign_of syntax) e);
      }

  -- a `(` opens a group
  abbrev opened : ℕ → Before → Group
  opened at before = record { place = at; outside = before }

  opens : {depth at : ℕ} (before : Before) (groups : List Group) → length groups ≡ depth → depth < most_groups
      → at < length bytes → byte at ≡ 40 → scan_from syntax bytes at due before groups
      ≡ scan_from syntax bytes (at + 1) due nothing (opened at before ∷ groups)
  opens {depth} {at} before groups d few h e =
      at_due at before groups h (ap (sign_of syntax) e)
      ∙ ap (λ (b : Bool). cond b (scan_from syntax bytes (at + 1) due nothing (opened at before ∷ groups))
      (refused too_many_groups at))
      (lt-ltb (length groups) most_groups (omega arith))

  length_opened : {depth : ℕ} (group : Group) (groups : List Group) → length groups ≡ depth
      → length (group ∷ groups) ≡ depth + 1
  length_opened group groups d = rw (add-one) (ap suc d)

  -- a 33rd group
  pub fails_deep : (depth at : ℕ) → most_groups ≤ depth → at < length bytes → byte at ≡ 40
      → Fails syntax starred bytes depth at too_many_groups at
  fails_deep depth at deep h e =
      record {
        onward = λ before groups d.
            at_due at before groups h (ap (sign_of syntax) e)
            ∙ ap (λ (b : Bool). cond b (scan_from syntax bytes (at + 1) due nothing (opened at before ∷ groups))
            (refused too_many_groups at)) (le-ltb (length groups) most_groups (omega arith));
      }

  -- a fault in a group
  pub fails_group : {depth number place : ℕ} (at : ℕ) → Fails syntax united bytes (depth + 1) (at + 1) number place
      → depth < most_groups → at < length bytes → byte at ≡ 40 → Fails syntax starred bytes depth at number place
  fails_group at f few h e =
      record {
        onward = λ before groups d. opens before groups d few h e
            ∙ f.onward nothing (opened at before ∷ groups) (length_opened (opened at before) groups d);
      }

  -- the end comes with a group open
  pub fails_open : {depth : ℕ} {t : SignedTree Atom} (at next : ℕ) → Leads syntax united bytes (depth + 1)
      (at + 1) t next
      → next ≡ length bytes → depth < most_groups → at < length bytes → byte at ≡ 40
      → Fails syntax starred bytes depth at group_left_open at
  fails_open at next l end few h e =
      record {
        onward = λ before groups d.
            opens before groups d few h e
            ∙ l.onward nothing (opened at before ∷ groups) (length_opened (opened at before) groups d)
            ∙ rw end (from_end (after _) nothing (opened at before ∷ groups));
      }

  -- a group that is closed
  pub leads_group : {depth : ℕ} {t : SignedTree Atom} (at next : ℕ) → Leads syntax united bytes (depth + 1)
      (at + 1) t next
      → next < length bytes → byte next ≡ 41 → depth < most_groups → at < length bytes → byte at ≡ 40
      → Leads syntax starred bytes depth at t (next + 1)
  leads_group at next l inside closes few h e =
      record {
        onward = λ before groups d.
            opens before groups d few h e
            ∙ l.onward nothing (opened at before ∷ groups) (length_opened (opened at before) groups d)
            ∙ at_after next _ nothing (opened at before ∷ groups) inside (ap (sign_of syntax) closes);
      }

  -- an operand is a catenation, and a catenation a union
  pub leads_joined : {depth at next : ℕ} {t : SignedTree Atom} → Leads syntax starred bytes depth at t next
      → Leads syntax joined bytes depth at t next
  leads_joined l = record { onward = λ before groups d. l.onward (seen joined before) groups d }

  pub leads_united : {depth at next : ℕ} {t : SignedTree Atom} → Leads syntax joined bytes depth at t next
      → Leads syntax united bytes depth at t next
  leads_united l = record { onward = λ before groups d. l.onward nothing groups d }

  pub fails_joined : {depth at number place : ℕ} → Fails syntax starred bytes depth at number place
      → Fails syntax joined bytes depth at number place
  fails_joined f = record { onward = λ before groups d. f.onward (seen joined before) groups d }

  pub fails_united : {depth at number place : ℕ} → Fails syntax joined bytes depth at number place
      → Fails syntax united bytes depth at number place
  fails_united f = record { onward = λ before groups d. f.onward nothing groups d }

  -- where a reading stops, two states of the scanner that go on alike there are the same
  stopped : {level : Level} (t s : SignedTree Atom) (before other : Before) (groups : List Group) (place : ℕ)
      → Stops syntax level bytes place → finished before t ≡ finished other s
      → ((sign : Sign) → stopping level sign ≡ true
      → follow sign (byte place) t place (scan_from syntax bytes (place + 1)) before groups
      ≡ follow sign (byte place) s place (scan_from syntax bytes (place + 1)) other groups)
      → scan_from syntax bytes place (after t) before groups ≡ scan_from syntax bytes place (after s) other groups
  stopped t s before other groups place (at_end e) same alike =
      rw e (from_end (after t) before groups ∙ end_same t (length bytes) before s other groups same
      ∙ sym (from_end (after s) other groups))
  stopped t s before other groups place (at_sign h stop) same alike = from_byte place (after t) before groups h
      ∙ alike (sign_of syntax (byte place)) stop ∙ sym (from_byte place (after s) other groups h)

  -- the next operand is due where a catenation does not stop
  begins : (place : ℕ) (t : SignedTree Atom) (before : Before) (groups : List Group) → place < length bytes
      → beginning (sign_of syntax (byte place)) ≡ true → scan_from syntax bytes place (after t) before groups
      ≡ scan_from syntax bytes place due (next_factor before t place) groups
  begins place t before groups h e = from_byte place (after t) before groups h
      ∙ begin_follow (sign_of syntax (byte place)) (byte place) t place (scan_from syntax bytes (place + 1)) before
      groups e
      ∙ sym (from_byte place due (next_factor before t place) groups h)

  -- a catenation with one more operand
  module _ {depth at : ℕ} {s : SignedTree Atom} (place : ℕ) (l : Leads syntax joined bytes depth at s place)
      (h : place < length bytes) (more : beginning (sign_of syntax (byte place)) ≡ true) where
    pub leads_factor : {next : ℕ} {t : SignedTree Atom} → Leads syntax starred bytes depth place t next
        → Stops syntax starred bytes next
        → Leads syntax joined bytes depth at (catenation place s t) next
    leads_factor {next} {t} r stop =
        record {
          onward = λ before groups d.
              l.onward before groups d
              ∙ begins place s (seen joined before) groups h more
              ∙ r.onward (next_factor (seen joined before) s place) groups d
              ∙ stopped t (catenation place s t) (next_factor (seen joined before) s place) (seen joined before)
              groups next stop refl
              (λ sign e. factor_follow before.unions (record { place = place; left = s }) t sign (byte next) next
              (scan_from syntax bytes (next + 1)) groups e);
        }

    pub fails_factor : {number fault : ℕ} → Fails syntax starred bytes depth place number fault
        → Fails syntax joined bytes depth at number fault
    fails_factor f =
        record {
          onward = λ before groups d. l.onward before groups d
              ∙ begins place s (seen joined before) groups h more
              ∙ f.onward (next_factor (seen joined before) s place) groups d;
        }

  -- a union with one more branch
  module _ {depth at : ℕ} {s : SignedTree Atom} (place : ℕ) (l : Leads syntax united bytes depth at s place)
      (h : place < length bytes) (e : byte place ≡ 124) where
    branches : (groups : List Group) → length groups ≡ depth → scan_from syntax bytes at due nothing groups
        ≡ scan_from syntax bytes (place + 1) due (next_union nothing s place) groups
    branches groups d = l.onward nothing groups d ∙ at_after place s nothing groups h (ap (sign_of syntax) e)

    pub leads_branch : {next : ℕ} {t : SignedTree Atom} → Leads syntax joined bytes depth (place + 1) t next
        → Stops syntax joined bytes next → Leads syntax united bytes depth at (union place s t) next
    leads_branch {next} {t} r stop =
        record {
          onward = λ before groups d.
              branches groups d
              ∙ r.onward (next_union nothing s place) groups d
              ∙ stopped t (union place s t) (next_union nothing s place) nothing groups next stop refl
              (λ sign e. branch_follow (record { place = place; left = s }) t sign (byte next) next
              (scan_from syntax bytes (next + 1)) groups e);
        }

    pub fails_branch : {number fault : ℕ} → Fails syntax joined bytes depth (place + 1) number fault
        → Fails syntax united bytes depth at number fault
    fails_branch f =
        record { onward = λ before groups d. branches groups d ∙ f.onward (next_union nothing s place) groups d }

  -- the whole expression was read: nothing is before it, and no group is open
  module _ {t : SignedTree Atom} (next : ℕ) (l : Leads syntax united bytes 0 0 t next) where
    pub accepts : next ≡ length bytes → scan_from syntax bytes 0 due nothing [] ≡ tree t
    accepts e = l.onward nothing [] refl ∙ rw e (from_end (after t) nothing [])

    pub closes_none : next < length bytes → byte next ≡ 41
        → scan_from syntax bytes 0 due nothing [] ≡ refused closing_without_group next
    closes_none h e = l.onward nothing [] refl ∙ at_after next t nothing [] h (ap (sign_of syntax) e)

-- what the second syntax has
module _ (bytes : List ℕ) (depth at : ℕ) (h : at < length bytes) where
  -- the dot
  pub leads_dot : get_or bytes at 0 ≡ 46 → Leads second starred bytes depth at (leaf at (one_of the_dot)) (at + 1)
  leads_dot e = record { onward = λ before groups d. at_due second bytes at before groups h (ap (sign_of second) e) }

  -- a `]` outside a class
  pub fails_end_bracket : get_or bytes at 0 ≡ 93 → Fails second starred bytes depth at class_faulty at
  fails_end_bracket e =
      record { onward = λ before groups d. at_due second bytes at before groups h (ap (sign_of second) e) }

  -- a `}` outside a count
  pub fails_end_brace : get_or bytes at 0 ≡ 125 → Fails second starred bytes depth at count_faulty at
  fails_end_brace e =
      record { onward = λ before groups d. at_due second bytes at before groups h (ap (sign_of second) e) }

  -- a `[` leads into a class
  enters : get_or bytes at 0 ≡ 91 → (before : Before) (groups : List Group) → scan_from second bytes at due before groups
      ≡ after_class second at before groups (run_at bytes at)
  unfolding scan_from run_at
  enters e before groups =
      at_due second bytes at before groups h (ap (sign_of second) e)
      ∙ scan_class second at before groups (drop (at + 1) bytes) (at + 1) unread class-opened

  -- a class
  pub leads_class : {class : Class} {next : ℕ} → get_or bytes at 0 ≡ 91
      → run_at bytes at ≡ found class (drop next bytes) next
      → Leads second starred bytes depth at (leaf at (one_of class)) next
  unfolding scan_from
  leads_class e f =
      record { onward = λ before groups d. enters e before groups ∙ ap (after_class second at before groups) f }

  -- a class that is not of the form
  pub fails_class : get_or bytes at 0 ≡ 91 → run_at bytes at ≡ failed
      → Fails second starred bytes depth at class_faulty at
  fails_class e f =
      record { onward = λ before groups d. enters e before groups ∙ ap (after_class second at before groups) f }

-- the signs after an operand that only the second syntax has
module _ {bytes : List ℕ} {depth at : ℕ} {t : SignedTree Atom} (place : ℕ)
    (l : Leads second starred bytes depth at t place) (h : place < length bytes) where
  -- one or more of what was read
  pub leads_more : get_or bytes place 0 ≡ 43 → Leads second starred bytes depth at (one_or_more place t) (place + 1)
  leads_more e =
      record {
        onward = λ before groups d. l.onward before groups d
            ∙ at_after second bytes place _ before groups h (ap (sign_of second) e);
      }

  -- none or one of it
  pub leads_optional : get_or bytes place 0 ≡ 63 → Leads second starred bytes depth at (optional place t) (place + 1)
  leads_optional e =
      record {
        onward = λ before groups d. l.onward before groups d
            ∙ at_after second bytes place _ before groups h (ap (sign_of second) e);
      }

  -- a `{` leads into its count
  enters_count : get_or bytes place 0 ≡ 123 → (before : Before) (groups : List Group) → length groups ≡ depth
      → scan_from second bytes at due before groups
      ≡ after_count second place t before groups (count_at bytes place)
  unfolding scan_from count_at
  enters_count e before groups d =
      l.onward before groups d ∙ at_after second bytes place _ before groups h (ap (sign_of second) e)
      ∙ scan_count second place t before groups (drop (place + 1) bytes) (place + 1) fewest_due

  -- a count of it
  pub leads_counted : {fewest most next : ℕ} → get_or bytes place 0 ≡ 123
      → count_at bytes place ≡ count_found fewest most (drop next bytes) next
      → Leads second starred bytes depth at (counted place fewest most t) next
  unfolding scan_from
  leads_counted e f =
      record {
        onward = λ before groups d. enters_count e before groups d ∙ ap (after_count second place t before groups) f;
      }

  -- a count that is not of the form
  pub fails_count : get_or bytes place 0 ≡ 123 → count_at bytes place ≡ count-failed
      → Fails second starred bytes depth at count_faulty place
  fails_count e f =
      record {
        onward = λ before groups d. enters_count e before groups d ∙ ap (after_count second place t before groups) f;
      }
